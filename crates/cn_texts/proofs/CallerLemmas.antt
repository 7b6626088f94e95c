-- What proofs of other crates cite of this one. They cite nothing else of proofs/.

-- answers have the same lines if each has those of the other in its place
pub use Rattle.cn_texts.proofs.WritingLemmas.RecordLines.{lines-by, end-same, line-whole}
-- what follows of bytes that are known, and what was written of a text
pub use Rattle.cn_texts.proofs.ReadingLemmas.FirstFaults.{known-map}
pub use Rattle.cn_texts.proofs.WritingLemmas.Putting.{written-map}
-- texts that are put part by part, and lines in their parts
pub use Rattle.cn_texts.proofs.WritingLemmas.Putting.{put-all, put-last, put-next, put-none, put-same, put-then, text-held}
-- records none of which has a cause
pub use Rattle.cn_texts.proofs.ReadingLemmas.FirstFaults.{AreClean, cause_later, clean-all, clean-header, clean-more}
-- the arrivals of an epoch's clients
pub use Rattle.cn_texts.proofs.ReadingLemmas.GatheredEpochs.{arrival_at, client_of, other-epoch, same-epoch}
-- what is true of each element, and which numbers are there
pub use Rattle.cn_texts.proofs.Each.{each-append, each-weaker, last-there, not-there}
-- a grant whose form has no cause
pub use Rattle.cn_texts.proofs.GrantLemmas.CheckedGrants.{form-none}
