-- The lines that the program prints of flaws.
use Rattle.std.specs.Prelude.{ℕ, ◌++◌, List, codes, decimal}
use Rattle.cn_texts.specs.Grants.TightList.{flaw_name}
use Rattle.cn_texts.specs.declared.grants.record.Flaw.{Flaw}
use Rattle.cn_texts.specs.declared.grants.record.Flaw.TheVariants.{Read, Form, DuplicateClient, DuplicateName, Gap, Memory}

-- what is wrong, and which record or name has it
abbrev pub flaw_line : Flaw → List ℕ
flaw_line (Read at) = codes "renamer: record " ++ (decimal at ++ (codes ": " ++ flaw_name (Read at)))
flaw_line (Form at) = codes "renamer: record " ++ (decimal at ++ (codes ": " ++ flaw_name (Form at)))
flaw_line (DuplicateClient at) =
    codes "renamer: flaw: " ++ (flaw_name (DuplicateClient at) ++ (codes " record " ++ decimal at))
flaw_line (DuplicateName at) =
    codes "renamer: flaw: " ++ (flaw_name (DuplicateName at) ++ (codes " record " ++ decimal at))
flaw_line (Gap epoch name) =
    codes "renamer: flaw: " ++ (flaw_name (Gap epoch name)
    ++ (codes " epoch " ++ (decimal epoch ++ (codes " name " ++ decimal name))))
flaw_line Memory = codes "renamer: memory"
