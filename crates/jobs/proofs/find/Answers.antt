-- A search along the list says it.
use Rattle.std.proofs.Common.{◌≡◌, ◌∙◌, length, position, rules, tests}
use Rattle.std.proofs.lemmas.Iterator.{YieldsList-from_slice}
use Rattle.std.proofs.lemmas.Iterator.Search.{position_from_yields_List}
use Rattle.jobs.specs.Job.{is_of}
use Rattle.jobs.proofs.Places.{found_some, found_none, position_place, place_most}
use Rattle.jobs.proofs.find.Goals as goal

pub returns-clause-some : goal.returns-clause-some
returns-clause-some c =
    let jobs = c.args.jobs.now in
    let e : c.position.result ≡ position (is_of c.args.state c.args.member) jobs =
    position_from_yields_List (is_of c.args.state c.args.member) _ _ c.position.result c.position.ensures.ran (YieldsList-from_slice jobs cc) (λ x b q k. search (rules, tests)) in
    found_some _ _ (length jobs) (e ∙ position_place c.args.state c.args.member jobs)

pub returns-clause-none : goal.returns-clause-none
returns-clause-none c =
    let jobs = c.args.jobs.now in
    let e : c.position.result ≡ position (is_of c.args.state c.args.member) jobs =
    position_from_yields_List (is_of c.args.state c.args.member) _ _ c.position.result c.position.ensures.ran (YieldsList-from_slice jobs cc) (λ x b q k. search (rules, tests)) in
    found_none _ _ (length jobs) (e ∙ position_place c.args.state c.args.member jobs) (place_most c.args.state c.args.member jobs)
