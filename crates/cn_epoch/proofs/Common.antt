-- What many proofs of this crate import: they import it here.
pub use Rattle.std.proofs.Common.{Bool, List, None, Option, Some, [], ap, append-nil, append_assoc, arith, drop, false, get_or, inl, inr, length, refl, rules, slice_index, subst, sym, true, vec_capacity, vec_len, ℕ, ◌++◌, ◌+◌, ◌<◌, ◌∙◌, ◌∷◌, ◌≡◌, ◌≤◌}
pub use Rattle.cn_epoch.specs.History.{ByEpochHistories, Epochs, EpochsAgree, IsRecordOf, MayAnswerCommand, MayReply, MayTurn, cut_by, earlier_after, earlier_by, earlier_in, history_after_command, history_by_commands, kept_after, kept_by, next, replied_to, turns_after, turns_by}
pub use Rattle.cn_ledger.specs.declared.command.Command.TheVariants.{Enter, Step, Turn}
pub use Rattle.cn_ledger.specs.Answers.{HadMemory, IsSameAnswer, entered_reply, stepped_reply}
pub use Rattle.cn_epoch.specs.InsideEpochs.{epochs_of}
pub use Rattle.cn_core.specs.declared.event.Event.{Event}
pub use Rattle.cn_ledger.specs.declared.answer.Answer.{Answer}
pub use Rattle.cn_ledger.specs.declared.answer.Answer.TheVariants.{Replied, TurnRefused, Turned}
pub use Rattle.cn_epoch.specs.Calls.{AnswersCommandByHistory, RepliesByHistory, RunsCommandsByHistory, RunsCommandsTo, TakesCommandTo, TellsEpoch}
pub use Rattle.std.proofs.lemmas.List.{drop_more, ext_get_or}
pub use Rattle.cn_spec.specs.Step.{share}
pub use Rattle.cn_ledger.specs.declared.reply.Reply.{Reply}
pub use Rattle.cn_core.specs.History.{AgreesAfter, AreEpochs, Carried, HasOneHolder, IsHistory, answer_to, carried_by, inside_of, is_accepted}
pub use Rattle.cn_core.specs.State.{State, came_in, inside_in, name_at, position_in}
pub use Rattle.cn_core.specs.Tight.{HasShares, IsTightState}
pub use Rattle.cn_ledger.specs.declared.answer.TurnFault.TheVariants.{Memory, NotQuiet}
pub use Rattle.cn_ledger.specs.declared.command.Command.{Command}
pub use Rattle.cn_epoch.specs.Turns.{HasOneRecord, HaveOneAnswer, IsTightRecord}
pub use Rattle.std.proofs.lemmas.Grind.{common_steps}
