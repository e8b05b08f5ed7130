-- Each test is one of the definition's; what lies behind the job is all that is left.
use Rattle.group.proofs.Choice.{choices, tests}
use Rattle.std.proofs.Common.{ap, ◌∙◌}
use Rattle.message.specs.Message.{all_zero}
use Rattle.jobs.specs.Sound.{job_sound}
use Rattle.jobs.proofs.Forms.{behind}
use borrow.Author.Rules.{rules}
use Rattle.jobs.proofs.Job.sound.Goals as goal

pub returns-then-self-le-JOB : goal.returns-then-self-le-JOB
unfolding job_sound
returns-then-self-le-JOB c =
    let s = c.args.self.now in
    let z = c.zeros.ensures ∙ ap all_zero (behind s.length s.bytes (search rules)) in
    search (choices, tests, rules) depth 9

pub returns-else-self-le-JOB : goal.returns-else-self-le-JOB
unfolding job_sound
returns-else-self-le-JOB c = search (choices, tests, rules) depth 9
