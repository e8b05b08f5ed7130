-- Questions 1 and 19, then the step.
use Rattle.std.proofs.Common.{◌∙◌, ◌-◌, ap, sym, List, Ok, length, drop, length-drop, arith, rules}
use Rattle.std.proofs.lemmas.List.{length-take, take_rest}
use Rattle.jobs.specs.Feed.{add_of, give_of}
use Rattle.jobs.specs.Wording.{wording_of}
use Rattle.jobs.specs.declared.Job.{Job}
use Rattle.jobs.proofs.Forms.{for_list_adds}
use Rattle.jobs.proofs.Steps.{sound_size, feed_unsound, feed_other, feed_fetch, feed_add}
use Rattle.jobs.proofs.feed.Goals as goal

pub returns-then-not-sound-clause-answer : goal.returns-then-not-sound-clause-answer
returns-then-not-sound-clause-answer c = ap (λ o. o.answer) (feed_unsound c.args.jobs.now c.args.member c.args.payload.now (sym c.sound.ensures ∙ c.if-not-sound.true))

pub returns-then-not-sound-clause-lent : goal.returns-then-not-sound-clause-lent
returns-then-not-sound-clause-lent c = ap (λ o. o.jobs) (feed_unsound c.args.jobs.now c.args.member c.args.payload.now (sym c.sound.ensures ∙ c.if-not-sound.true))

pub returns-then-not-sound-clause-wording : goal.returns-then-not-sound-clause-wording
returns-then-not-sound-clause-wording c = ap wording_of (returns-then-not-sound-clause-answer c)

pub returns-then-not-for_list-clause-answer : goal.returns-then-not-for_list-clause-answer
returns-then-not-for_list-clause-answer c = ap (λ o. o.answer) (feed_other c.args.jobs.now c.args.member c.args.payload.now (sym c.sound.ensures ∙ c.if-not-sound.false) (sym c.for_list.ensures ∙ c.if-not-for_list.true))

pub returns-then-not-for_list-clause-lent : goal.returns-then-not-for_list-clause-lent
returns-then-not-for_list-clause-lent c = ap (λ o. o.jobs) (feed_other c.args.jobs.now c.args.member c.args.payload.now (sym c.sound.ensures ∙ c.if-not-sound.false) (sym c.for_list.ensures ∙ c.if-not-for_list.true))

pub returns-then-not-for_list-clause-wording : goal.returns-then-not-for_list-clause-wording
returns-then-not-for_list-clause-wording c = ap wording_of (returns-then-not-for_list-clause-answer c)

pub finish-requires : goal.finish-requires
finish-requires c = sound_size c.args.jobs.now c.args.member c.args.payload.now (sym c.sound.ensures ∙ c.if-not-sound.false)

pub give-requires : goal.give-requires
give-requires c = let n = sound_size c.args.jobs.now c.args.member c.args.payload.now (sym c.sound.ensures ∙ c.if-not-sound.false) in search rules

pub returns-then-is_fetch-clause-answer : goal.returns-then-is_fetch-clause-answer
returns-then-is_fetch-clause-answer c = ap (λ o. o.answer) (feed_fetch c.args.jobs.now c.args.member c.args.payload.now {o = record { jobs = c.give.new.jobs; answer = Ok c.give.result }} (sym c.sound.ensures ∙ c.if-not-sound.false) (sym c.for_list.ensures ∙ c.if-not-for_list.false) (sym c.is_fetch.ensures ∙ c.if-is_fetch.true) (c.give.ensures ∙ ap (λ (left : List Job). give_of left c.args.member) c.finish.ensures))

pub returns-then-is_fetch-clause-lent : goal.returns-then-is_fetch-clause-lent
returns-then-is_fetch-clause-lent c = ap (λ o. o.jobs) (feed_fetch c.args.jobs.now c.args.member c.args.payload.now {o = record { jobs = c.give.new.jobs; answer = Ok c.give.result }} (sym c.sound.ensures ∙ c.if-not-sound.false) (sym c.for_list.ensures ∙ c.if-not-for_list.false) (sym c.is_fetch.ensures ∙ c.if-is_fetch.true) (c.give.ensures ∙ ap (λ (left : List Job). give_of left c.args.member) c.finish.ensures))

pub returns-then-is_fetch-clause-wording : goal.returns-then-is_fetch-clause-wording
returns-then-is_fetch-clause-wording c = ap wording_of (returns-then-is_fetch-clause-answer c)

pub slice_bounds-add-count : goal.slice_bounds-add-count
slice_bounds-add-count c = let f = for_list_adds c.args.member c.args.payload.now (sym c.for_list.ensures ∙ c.if-not-for_list.false) (sym c.is_fetch.ensures ∙ c.if-is_fetch.false) in f.1

pub slice_bounds-add-start : goal.slice_bounds-add-start
slice_bounds-add-start c = let f = for_list_adds c.args.member c.args.payload.now (sym c.for_list.ensures ∙ c.if-not-for_list.false) (sym c.is_fetch.ensures ∙ c.if-is_fetch.false) in search (rules, f.1)

pub add-requires-clause-list : goal.add-requires-clause-list
add-requires-clause-list c = sound_size c.args.jobs.now c.args.member c.args.payload.now (sym c.sound.ensures ∙ c.if-not-sound.false)

pub add-requires-clause-job : goal.add-requires-clause-job
add-requires-clause-job c =
    let p = c.args.payload.now in
    let n = length-take (length p - 1) (drop 1 p) in
    let d = length-drop 1 p in
    let f = for_list_adds c.args.member c.args.payload.now (sym c.for_list.ensures ∙ c.if-not-for_list.false) (sym c.is_fetch.ensures ∙ c.if-is_fetch.false) in omega (arith, n, d, f.1, f.2)

pub returns-clause-answer : goal.returns-clause-answer
returns-clause-answer c = ap (λ o. o.answer) (feed_add c.args.jobs.now c.args.member c.args.payload.now {o = record { jobs = c.add.new.jobs; answer = c.add.result }} (sym c.sound.ensures ∙ c.if-not-sound.false) (sym c.for_list.ensures ∙ c.if-not-for_list.false) (sym c.is_fetch.ensures ∙ c.if-is_fetch.false) (c.add.ensures ∙ ap (add_of c.args.jobs.now) (take_rest c.args.payload.now 1)))

pub returns-clause-lent : goal.returns-clause-lent
returns-clause-lent c = ap (λ o. o.jobs) (feed_add c.args.jobs.now c.args.member c.args.payload.now {o = record { jobs = c.add.new.jobs; answer = c.add.result }} (sym c.sound.ensures ∙ c.if-not-sound.false) (sym c.for_list.ensures ∙ c.if-not-for_list.false) (sym c.is_fetch.ensures ∙ c.if-is_fetch.false) (c.add.ensures ∙ ap (add_of c.args.jobs.now) (take_rest c.args.payload.now 1)))

pub returns-clause-wording : goal.returns-clause-wording
returns-clause-wording c = ap wording_of (returns-clause-answer c)
