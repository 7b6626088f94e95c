-- Answers that say the same have the same lines, and those that are whole leave out nothing.
use Rattle.cn_report.proofs.Common.{◌≡◌, ◌<◌, ◌∙◌, ℕ, List, [], ◌∷◌, refl, ap, arith, length, AllZip, Command, IsShowable, answer_line, answer_lines, counts_or_shares, EpochRecord, grant_lines, lines-by, IsWhole}
use Rattle.cn_ledger.specs.declared.answer.Answer.{Answer}
use Rattle.cn_ledger.specs.declared.answer.Answer.TheVariants.{Replied, Turned, TurnRefused}
use Rattle.cn_ledger.specs.Answers.{IsSameAnswer}

-- what a grant list has of a record
abbrev pub grants-of : EpochRecord → List ℕ
grants-of r = grant_lines r.number r.clients r.holders.items

line-same : (width : ℕ) (answer other : Answer) → IsSameAnswer answer other → (command : Command)
    → answer_line width command answer ≡ answer_line width command other
unfolding answer_line
line-same width answer other same command = grind (arith, same)

pub lines-same : (width : ℕ) (commands : List Command) (answers others : List Answer) → AllZip IsSameAnswer answers others
    → answer_lines width commands answers ≡ answer_lines width commands others
lines-same width = lines-by IsSameAnswer width (line-same width)

-- counts that are given are shown
given-counts : (width clients : ℕ) (counts : List ℕ) → 0 < length counts → counts_or_shares width clients counts ≡ counts
given-counts width clients [] some = absurd (omega arith)
given-counts width clients (count ∷ counts) some = refl

-- a whole answer leaves out nothing
pub whole-showable : (width : ℕ) (answer : Answer) → 0 < width → IsWhole width answer → IsShowable width answer
whole-showable width (Replied reply) wide whole = tt
whole-showable width (TurnRefused fault) wide whole = tt
whole-showable width (Turned r) wide (many, holders) = record {
  counts = ap length (given-counts width r.clients r.counts.items (omega (arith, wide, many))) ∙ many;
  few = λ none. omega (arith, wide, many, ap length none);
  holders = holders;
}
