-- The names that most proofs cite, passed on from one place. It declares nothing.
pub use Rattle.std.proofs.Common.{◌≡◌, ◌<◌, ◌≤◌, ◌+◌, ℕ, Bool, List, [], ◌∷◌, ◌++◌, true, false, Option, Some, None, length, refl, arith, suc, sym, ap, ◌∙◌, inl, inr, map, subst, length-append, if◌then◌else◌, drop, take, get_or, zero, append_assoc, ◌^◌, rules, ◌*◌}
pub use Rattle.std.specs.Prelude.{◌==◌, nat_eq, Ok, Err, Result, ◌≢◌, codes, decimal, All, ⊤}
pub use Rattle.std.specs.List.{AllByRecursion, list_any, cons_option, sum_by, flat_map, range_with_len, list_all, fold, AllZip}
pub use Rattle.std.proofs.lemmas.Bool.{ne_eqb, eq-eqb}
pub use Rattle.std.proofs.lemmas.Bool.Decides.{eqb_tells, nat_tests}
pub use Rattle.std.proofs.lemmas.List.{append-nil, map-append, length-map, take_all, take_more, get_or-map}
pub use Rattle.std.proofs.lemmas.List.Elements.{filter-append, filter_map-append, All-cons, All-nil, recursion_from_All, All-get_or}
pub use Rattle.std.proofs.lemmas.List.Sums.{fold-append}
pub use Rattle.cn_spec.specs.Step.{counts_of, shares, counts_after, shares_after, share}
pub use Rattle.cn_texts.specs.Reading.Records.{Record, records_of}
pub use Rattle.cn_texts.specs.Writing.Pieces.{Puts}
pub use Rattle.cn_texts.proofs.CallerLemmas.{AreClean, arrival_at, cause_later, clean-all, clean-header, clean-more, client_of, each-append, each-weaker, form-none, last-there, not-there, end-same, line-whole, lines-by, other-epoch, put-all, put-last, put-next, put-none, put-same, put-then, same-epoch, text-held}
pub use Rattle.cn_texts.specs.Grants.ListText.{grant_lines, grants_text}
unfoldable pub use Rattle.cn_texts.specs.Grants.ListText.{grant_line, grants_header}
pub use Rattle.cn_report.specs.Callers.{HasHolders, IsWhole, IsWholeRecord, plain_tight}
pub use Rattle.cn_ledger.specs.declared.record.EpochRecord.{EpochRecord}
pub use Rattle.cn_texts.specs.Writing.Report.{clients_of_records, epoch_line, epoch_lines, report_end, report_text}
pub use Rattle.cn_texts.specs.declared.grants.record.Granted.{Granted}
pub use Rattle.cn_ledger.specs.declared.client.Client.{Client}
pub use Rattle.cn_texts.specs.Reading.Batch.{AreEpochsOf, IsBatch, arrivals_of, batch_cause, header_cause, plain_epoch, record_cause}
unfoldable pub use Rattle.cn_texts.specs.Reading.Batch.{AreRising}
pub use Rattle.cn_texts.specs.Grants.TightList.{AreTightGrants, IsTightList, grants_form, record_form}
pub use Rattle.cn_texts.specs.declared.reading.batch.BatchEpoch.{BatchEpoch}
pub use Rattle.cn_nets.specs.Net.{Description, entries_of}
pub use Rattle.std.proofs.lemmas.List.FromFn.{fill_by_all, length-map-range_with_len, map-range_with_len_more}
pub use Rattle.cn_texts.specs.Grants.Granted.{grants_spelled, last_epoch, of_epoch}
unfoldable pub use Rattle.cn_texts.specs.Grants.Granted.{grant_spelled}
pub use Rattle.cn_texts.specs.Grants.TightText.{tight_counts, tight_line, tight_text}
pub use Rattle.std.proofs.lemmas.List.Sorted.{All-permutation, IsPermutation-refl, length_permutation}
pub use Rattle.cn_spec.specs.declared.limits.TheConstants.{MOST_NAMED, MOST_RECORDS}
pub use Rattle.cn_texts.specs.Grants.Printed.{epoch_numbers, printed_epoch, printed_epochs, with_number, with_shares}
pub use Rattle.cn_report.specs.TightRecords.{AreTightRecords, HasOwnNames, checked_epoch, names_in, served_epoch}
unfoldable pub use Rattle.cn_report.specs.TightRecords.{AreRisingRecords}
pub use Rattle.cn_texts.specs.Reading.Arrival.{arrival_in, arrivals_in, spelled_cause}
unfoldable pub use Rattle.cn_texts.specs.Reading.Arrival.{arrival_cause, arrival_with_entry, ruled_arrival}
pub use Rattle.cn_texts.specs.Reading.Bounds.{bounds_of}
pub use Rattle.cn_cli.specs.declared.options.Form.TheVariants.{Grants, Report}
pub use Rattle.cn_renamer.specs.Headline.{IsInOrder, IsRunInOrder, IsRunOf, IsServed, clients_before_next, text_in}
unfoldable pub use Rattle.cn_renamer.specs.Headline.{AreServed}
pub use Rattle.cn_tables.specs.Network.{IsNetwork, Network}
pub use Rattle.cn_texts.specs.Writing.Text.{heading}
pub use Rattle.cn_nets.proofs.CallerLemmas.{one-network}
pub use Rattle.cn_ledger.specs.declared.command.Command.{Command}
pub use Rattle.cn_texts.specs.Writing.Replay.{IsShowable, answer_lines, counts_or_shares, end_line}
unfoldable pub use Rattle.cn_texts.specs.Writing.Replay.{answer_line}
pub use Rattle.std.specs.Result.{is_ok, result_ok}
pub use Rattle.cn_texts.specs.Reading.Heading.{heading_in}
pub use Rattle.cn_texts.specs.Reading.Faults.{IsClean}
unfoldable pub use Rattle.cn_texts.specs.Reading.Number.{number_in}
pub use Rattle.cn_texts.specs.declared.reading.batch.arrival.Arrival.{Arrival}
pub use Rattle.csv.specs.Writing.{default_writer, field_text, needs_byte, quote_mark, read_back, row_body, row_text}
unfoldable pub use Rattle.csv.specs.Writing.{escaped, fields_text, is_blank}
pub use Rattle.cn_spec.proofs.CallerLemmas.{counts-shares, counts-shares-after, times-nil}
