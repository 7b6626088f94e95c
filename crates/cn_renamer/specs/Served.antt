-- What a run of a batch's epochs has written.
use Rattle.std.specs.Prelude.{ℕ, ◌≡◌, IfErr, IfOk, List, Option, Result}
use Rattle.cn_cli.specs.Options.{Settings}
use Rattle.cn_floor.specs.Ends.{QuietValue}
use Rattle.cn_texts.specs.Writing.Written.{HasWritten, Whole, written_by}
use Rattle.cn_walk.specs.declared.crew.Crew.{Crew}
use Rattle.cn_renamer.specs.declared.serve_fault.ServeFault.{ServeFault}
use Rattle.cn_renamer.specs.Floors.{IsRunOnFloorsOfKnown}
use Rattle.cn_renamer.specs.Headline.{IsRunInOrderOfKnown, IsRunOfKnown}
use Rattle.cn_renamer.specs.Serve.{IsServeFault, until_serve}

-- what is written is the text of a run of the bytes, if they are known, or as much of it as the fault says: in order if
-- one worker with one client in hand walked, and the receipts are of its floors
pub record HasServed {W : Type 0} (crew : Crew) (o : Settings) (known : Option (List ℕ))
    (contents : W → Option (List ℕ)) (old new : W) (answer : Result (List QuietValue) ServeFault) : Type 0 where
  pub headline : let Is = IsRunOfKnown o.net o.form o.carry o.large known in
      HasWritten contents Is (written_by until_serve answer) old new
  pub in_order : crew.workers ≡ 1 → crew.hand ≡ 1
      → let Is = IsRunInOrderOfKnown o.net o.form o.carry o.large known in
      HasWritten contents Is (written_by until_serve answer) old new
  pub floors : IfOk answer (λ floors. let Is = IsRunOnFloorsOfKnown o.net o.form o.carry o.large floors known in
      HasWritten contents Is Whole old new)
  pub refused : IfErr answer (IsServeFault o.net o.large known)
