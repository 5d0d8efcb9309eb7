use Rattle.std.proofs.Common.{◌≡◌, ◌≢◌, ◌∷◌, [], length, count_by, eqb, arith, refl, rules}
use Rattle.std.proofs.lemmas.Bool.Decides.{Decides-eqb, nat_tests}
use Rattle.std.proofs.lemmas.List.{nil_from_length}
use Rattle.std.proofs.lemmas.Slice.Eq.{strip_suffix_is}
use Rattle.replay.proofs.Text.Counting.{lines_to, no_last_feed}
use Rattle.replay.proofs.file.reading.line_count.Goals as goal

pub returns-then-is_empty-clause-found : goal.returns-then-is_empty-clause-found
returns-then-is_empty-clause-found c =
    let none : length c.args.bytes.now ≡ 0 = grind (arith, nat_tests, c.if-is_empty.ensures) in
    ([], record { whole = nil_from_length c.args.bytes.now none; bare = tt }, refl)

pub returns-in_err-strip_suffix-clause-none : goal.returns-in_err-strip_suffix-clause-none
returns-in_err-strip_suffix-clause-none c =
    let some : length c.args.bytes.now ≢ 0 = grind (arith, nat_tests, c.if-is_empty.ensures) in
    rw c.from_residual.ensures (no_last_feed some (rw c.in_err-strip_suffix.was at
    (strip_suffix_is Decides-eqb c.args.bytes.now (10 ∷ []) c.strip_suffix.result c.strip_suffix.ensures.cases)))

pub returns-clause-found : goal.returns-clause-found
returns-clause-found c =
    let e = rw c.in_ok-strip_suffix.was at
    (strip_suffix_is Decides-eqb c.args.bytes.now (10 ∷ []) c.strip_suffix.result c.strip_suffix.ensures.cases) in
    let counts : c.count.result ≡ count_by (λ b. eqb b 10) c.args.bytes.now = search rules in
    let (text, later, are, all) = lines_to c.in_ok-strip_suffix.field-0.now in
    (text ∷ later, rw e are, rw (counts, e) all)
