use Rattle.cn_epoch.proofs.Common.{◌≡◌, Bool, true, false, List, Option, None, Some, refl, Event, epochs_of, EpochsAgree, earlier_in}
use Rattle.cn_epoch.proofs.epochs.Epochs.state_laws.Goals as goal

pub returns-clause-reached : goal.returns-clause-reached
returns-clause-reached c = rw (← c.self.view_is) (by c.self.inside.carries refl)
  where
    by : (carries : Bool) → c.self.inside.carries ≡ carries
        → (history : List Event) × (kept : Option (List (List Event)))
        × EpochsAgree (epochs_of c.self.inside) c.self.inside.number history kept
    by true carries = let (history, earlier, agrees) = c.state_laws.ensures.reached in
        (history, Some earlier, record { number = refl; carries = carries; core = agrees })
    by false clears = let (history, agrees) = c.self.invariant.cleared clears in
        (history, None, record { number = refl; carries = clears; core = agrees })

pub returns-clause-sound : goal.returns-clause-sound
returns-clause-sound c = rw (← c.self.view_is)
    (λ turns history kept agrees. c.state_laws.ensures.sound history (earlier_in kept) agrees.core)

pub returns-clause-shares : goal.returns-clause-shares
returns-clause-shares c = rw (← c.self.view_is)
    (λ turns history kept agrees. c.state_laws.ensures.shares history (earlier_in kept) agrees.core)
