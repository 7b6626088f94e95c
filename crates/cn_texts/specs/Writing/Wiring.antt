-- The text of a network's wiring: the heading, a line for each wire, and the end line.
use Rattle.std.specs.Prelude.{ℕ, List, [], ◌∷◌, ◌++◌, length, codes, decimal}
use Rattle.std.specs.List.{enumerate_from, flat_map}
use Rattle.cn_tables.specs.declared.end.End.{End}
use Rattle.cn_tables.specs.declared.end.End.TheVariants.{Balancer, Exit}
use Rattle.cn_tables.specs.Network.{Network}
use Rattle.cn_texts.specs.Writing.Text.{heading, line}

-- a wire and where it ends
unfoldable pub wire_line : ℕ × End → List ℕ
wire_line (wire, Balancer b) = line (codes "wire" ∷ decimal wire ∷ codes "balancer" ∷ decimal b ∷ [])
wire_line (wire, Exit i) = line (codes "wire" ∷ decimal wire ∷ codes "exit" ∷ decimal i ∷ [])

-- the wires in order, a line for each
abbrev pub wire_lines : List End → List ℕ
wire_lines ends = flat_map wire_line (enumerate_from 0 ends)

-- how many wires there are
unfoldable pub wires_line : ℕ → List ℕ
wires_line wires = line (codes "end" ∷ codes "wires" ∷ decimal wires ∷ [])

-- the whole text of a wiring
abbrev pub wiring_text : Network → List ℕ
wiring_text network = heading network ++ wire_lines network.table.ends ++ wires_line (length network.table.ends)
