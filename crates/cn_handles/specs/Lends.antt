-- What a handle has after the use of what it lent.
use Rattle.std.specs.Prelude.{Option, Some}
use Rattle.std.specs.Borrow.{Fml, LendsIf, MutBor}
use Rattle.cn_handles.specs.Holding as held
use Rattle.cn_handles.specs.contracts.handles.handle.Handle as handle
use Rattle.cn_handles.specs.declared.handles.handle.Handle.{Handle}

-- a handle that has this
abbrev pub with_held : Handle → (held.the_row).Denot → Handle
with_held h held = record h { held = Some held }

-- it has what is then there; if it had none, it is as it was
abbrev pub LendsHeld : MutBor Handle → Option (MutBor (held.the_row).Denot) → Fml
LendsHeld h r = LendsIf handle.the_row held.the_row h r (with_held h.now) h.now
