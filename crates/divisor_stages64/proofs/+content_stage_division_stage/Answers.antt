use borrow.Author.Rules.{rules}
use Rattle.divisor_stages64.proofs.Cases.{stages, value_at, split_at}
use Rattle.divisor_stages64.proofs.+content_stage_division_stage.Goals as goal

pub content_stage-division_stage-requires : goal.content_stage-division_stage-requires
content_stage-division_stage-requires t c = search stages

pub content_stage-division_stage-requires-in-Next :
    goal.content_stage-division_stage-requires-in-Next
content_stage-division_stage-requires-in-Next t c = search stages

pub content_stage-returns-in_err-y-in-Next-clause-divisor_or_split :
    goal.content_stage-returns-in_err-y-in-Next-clause-divisor_or_split
content_stage-returns-in_err-y-in-Next-clause-divisor_or_split t c =
    let x = split_at _ _ _ _ _ _ _ _ c.clear_contents.ensures.clears _ _ _ _ c.in-Next.is _
    c.division_stage-in-Next.ensures.divisor_or_split _ c.in_err-y-in-Next.was in
    search rules

pub content_stage-returns-in_ok-y-in-Next-clause-divisor_or_split :
    goal.content_stage-returns-in_ok-y-in-Next-clause-divisor_or_split
content_stage-returns-in_ok-y-in-Next-clause-divisor_or_split t c =
    value_at _ _ _ _ _ _ _ _ c.clear_contents.ensures.clears _ _ _ _ c.in-Next.is _
    c.division_stage-in-Next.ensures.divisor_or_split _ _ c.in_ok-y-in-Next.was c.times.ensures

pub division_stage-returns-then-p-eq0-clause-divisor_or_split :
    goal.division_stage-returns-then-p-eq0-clause-divisor_or_split
division_stage-returns-then-p-eq0-clause-divisor_or_split t c = search stages

pub division_stage-divide-requires-clause-pair : goal.division_stage-divide-requires-clause-pair
division_stage-divide-requires-clause-pair t c = search stages

pub division_stage-content_stage-requires : goal.division_stage-content_stage-requires
division_stage-content_stage-requires t c = search stages

pub division_stage-returns-clause-divisor_or_split :
    goal.division_stage-returns-clause-divisor_or_split
division_stage-returns-clause-divisor_or_split t c = search stages
