-- What many proofs of this crate import: they import it here.
pub use Rattle.std.proofs.Common.{List, None, Option, Some, [], ap, append_assoc, arith, cond, count_by, drop, get_or, inl, inr, length, length-set, lit<, map, min, refl, replicate, rules, set, slice_index, slice_set, subst, suc, sym, take, zero, ℕ, ◌++◌, ◌+◌, ◌-◌, ◌<◌, ◌==◌, ◌∙◌, ◌∷◌, ◌≡◌, ◌≤◌}
pub use denote.RattleType.{RattleType, Valss, owns}
pub use denote.RawPtr.{Ptr, Testable, block_ptr, in_a_block, lies_at, null_ptr, ptr_val, tests_null}
pub use base.Logic.{SProp, emp, ent, fst∗, guard, guard_i, id⊢, never, sep, snd∗, via}
pub use mir.Val.{Val, WT, has_ty, of_list, vcons, vnil, vptr, vstruct}
pub use types.Kit.{ !, Goal, Item, Seq, Step, any_q, at_ret, await, by, done, feq_i, feq_l, fjoin, fpack, fpick, frame, fsplit, fsplit3, given, group, join, keep, later, learn, move, pick, qed, raw, rewrite, some, split, split3, step, suffices, use0, use1, ‵, ◌$◌, ◌∵◌, ◌⊛◌}
pub use denote.Steps.{closes, heard, nothing, only, opens}
pub use contract.Monad.{Fun, fact, fact_i, fact_use}
pub use Rattle.cn_handles.specs.Many.{AreAllNamed, AreNamedAtOnce, AreNamedByRuns, IsLongestRun, all_by, by_entry, client_from, first_entry}
pub use Rattle.cn_floor.specs.Lane.{FloorValue, LaneValue, StepsOn, with_rooms}
pub use Rattle.std.proofs.alloc.Calls.{Al, Goes-blank, handle_tells}
pub use prog.Wp.{Calls, Env, Loops, Wp, WpFn, after_block, after_seq, at_return}
pub use types.Run.{addr, and_then, bin, blocks, branches, enter, exec, first, fld, lit, load, no_more, of_opd, returns, stop}
pub use types.ByLocal.{alloc_all, env, free_all, get, get_in, is, lands_as, lands_last, look_at, pass_all, sets, sets_last, through}
pub use types.Part.{agg, look_in, sub, whole}
pub use contract.Running.{tables}
pub use denote.Signature.{mut_ref_to, plain, type_at, types_at}
pub use denote.Triple.Walked.{Goes-dropped, Goes-spent_ref, Stays, ends_at, says, stay_dropped, walk_of}
pub use Rattle.std.proofs.raw_atomic.Walks.{leaves, proved, proved_at}
pub use Rattle.cn_handles.specs.declared.handles.client.Client.{Client}
pub use denote.Memory.{cell_at, lone, mem, part_at}
unfoldable pub use denote.Memory.{part_of}
pub use denote.Param.{bounded, layout, param}
pub use Rattle.std.proofs.lemmas.List.{drop-drop, get_or-set_other, get_or-set_same, get_or_default, length-append, length-drop, length-map, map-append, take_all}
pub use types.Logic.{Logic, sem}
pub use Rattle.std.proofs.cell.Inside.{Good, one}
pub use Rattle.std.specs.Box.Ownership.{box_owns}
pub use Rattle.std.specs.contracts.impls.GlobalAllocator.TheImpl.{ghosts}
pub use denote.Exit.{Exit, hidden, no, unchanged, under, yes}
pub use base.Fml.{Fml, GName, Lft, Share, flft, fres, fsep, ftrue}
pub use denote.Triple.Entry.{alive, on_entry}
pub use Rattle.cn_lists.specs.Listed.{AreNamed, AreNamesBy, HaveNames}
pub use Rattle.cn_walk.specs.Walks.{WalksAll}
pub use seplogic.Ra.Ura.{Ura}
pub use mir.Syntax.{Fn, a_type, dcons, dnil, impl, named, tnil}
pub use Rattle.cn_floor.specs.declared.view.Grant.{Grant}
pub use denote.Struct.Struct.{exits_of, within}
pub use denote.Struct.Owning.{fields, shape, to}
pub use base.Fraction.{full_share}
pub use Rattle.cn_handles.specs.Looking.{GoesOn, IsNewSearch, IsWithin}
pub use Rattle.cn_floor.specs.Steps.{StoodInState}
pub use Rattle.cn_yard.specs.Lists.{IsThere, Lists, Yard, on, tokens_in}
pub use denote.Builtin.{RawPtr}
pub use denote.Param.Laws.{Laws, param_laws}
pub use Rattle.std.specs.declared.alloc.Allocator.{Ghosts}
pub use Rattle.cn_handles.specs.Holding.{holds}
pub use denote.Param.Send.{AllSend, Frees, IsSend, IsSync, Quiet, owning_send, part_keyless, sendable, struct_send}
pub use Rattle.std.proofs.alloc.Shapes.{after, head, inside}
pub use mathlib.Core.Bool.{Bool, false, true, ◌&&◌}
pub use lib.Dec.{T}
pub use Rattle.std.proofs.ResultValues.{and_tt}
pub use base.Shift.{Keyless}
pub use Rattle.cn_handles.specs.contracts.handles.box_pointer.BoxPointer.{the_row, the_type}
pub use mir.MapTy.{inst_fn}
pub use denote.Triple.Clauses.{Clauses, Lasts, lasts}
pub use denote.Triple.Spec.{triple_of}
pub use denote.Triple.Call.{calls_at, calls_at_last}
pub use denote.Triple.Table.{framed}
pub use Rattle.std.proofs.BoxSteps.Steps.{box_in, box_out}
pub use Rattle.std.proofs.lemmas.Bool.{cases_eq}
pub use Rattle.cn_handles.specs.Questions.{copy_of}
pub use types.Match.{live}
pub use Rattle.std.proofs.option.Made.{Some-of, none_of}
pub use Rattle.cn_floor.proofs.CallerLemmas.{first-stands, nobody-there, some-inside}
pub use Rattle.std.proofs.Math.ListN.{drop_of_length-le}
pub use Rattle.cn_handles.specs.declared.handles.held.Held.TheVariants.{Nothing}
pub use Rattle.cn_handles.specs.Placing.{AreSlotsOf, AreTagsOf}
