-- What is known of a command that is put together step by step.
use Rattle.cn_cli.proofs.Common.{◌≡◌, ◌∙◌, ap₂, IfOk, IsOkAnd, Result, Ok, Err, IfOk-weaker, App, Rule, with_rule}

at-before : {C E : Type 0} (app : C → App) (before : Result C E) (whole first : App) (rule added : Rule)
    → IfOk before (λ part. app part ≡ first) → rule ≡ added
    → IsOkAnd before (λ part. whole ≡ with_rule (app part) rule) → whole ≡ with_rule first added
at-before app (Ok part) whole first rule added was same with = with ∙ ap₂ with_rule was same
at-before app (Err e) whole first rule added was same with = absurd with

-- one more argument, where the command so far and the argument are known
pub argued : {C E : Type 0} (app : C → App) (before result : Result C E) (first : App) (rule added : Rule)
    → IfOk before (λ part. app part ≡ first) → rule ≡ added
    → IfOk result (λ whole. IsOkAnd before (λ part. app whole ≡ with_rule (app part) rule))
    → IfOk result (λ whole. app whole ≡ with_rule first added)
argued app before result first rule added was same =
    IfOk-weaker result _ _ (λ whole with. at-before app before (app whole) first rule added was same with)
