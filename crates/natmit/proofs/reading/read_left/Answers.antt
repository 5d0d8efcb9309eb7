-- Where some nodes are left, and nothing comes behind them, all bytes were read.
use Rattle.std.proofs.Common.{◌≡◌, ℕ, ◌<◌, List, [], ◌∷◌, ◌++◌, length, map, sym, ap, ◌∙◌, append-nil, arith}
use Rattle.std.proofs.lemmas.Bool.{eqb-true}
use Rattle.std.proofs.lemmas.List.{nil_from_length}
use Rattle.tree_machine.specs.Flat.{graph_code, left_code}
use Rattle.natmit.specs.declared.memory.Node.{Node}
use Rattle.natmit.specs.Parts.{node_part}
use Rattle.natmit.proofs.reading.read_left.Goals as goal

some_left : (more : List Node) (bytes rest : List ℕ) → 0 < length more → rest ≡ []
    → bytes ≡ graph_code (map node_part more) [] ++ rest → bytes ≡ left_code (map node_part more) []
some_left [] bytes rest some none read = absurd (omega arith)
some_left (node ∷ more) bytes rest some none read =
    read ∙ ap (λ l. graph_code (map node_part (node ∷ more)) [] ++ l) none ∙ append-nil _

pub returns-in-Some : goal.returns-in-Some
returns-in-Some c is =
    let rest = c.in-Some.rest.now in
    let read = rw c.in-Some.is at c.in_ok-rest.ensures in
    let none = nil_from_length rest (eqb-true (length rest) 0 (sym c.is_empty-in-Some.ensures ∙ is)) in
    (read.0, read.1, some_left read.0 c.args.bytes.now rest (omega (arith, read.2, c.if-count-gt0.true)) none read.3)
