use borrow.Author.Rules.{rules}
use Rattle.resultant_steps.proofs.Contents.{clearing}
use Rattle.resultant_steps64.proofs.clear_content.Statement.{statement}
use Rattle.resultant_steps64.proofs.clear_content.Tie as tie

pub clear_content_spec : {M : Type 1} → statement M
clear_content_spec = tie.close (tie.spec (λ c. search rules) (λ c. search rules) (λ c. search rules) (λ c. search rules) (λ c. search rules)
    (λ c. search rules) (λ c. search rules) (λ c. search rules) (λ c κs. search rules) (λ c. search rules)
    (λ c. (search clearing, (search rules, search clearing))) (λ c. search clearing) (λ c κs. search clearing) (λ c. search rules)
    (λ c. search rules) (λ c κs. (search clearing, search rules)) (λ c. search rules)
    (λ c κs. ((search rules, (search rules, search rules)), search rules)) (λ c. search rules)
    (λ c. (search clearing, (search rules, search rules))))
