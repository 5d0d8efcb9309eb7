use Rattle.std.proofs.Common.{◌≡◌, codes, arith, subst}
use Rattle.std.proofs.lemmas.Bool.Decides.{Decides-eqb}
use Rattle.std.proofs.lemmas.Slice.Eq.{strip_prefix_is}
use Rattle.replay.specs.Text.Files.{IsNumber}
use Rattle.replay.proofs.file.reading.entries_of.Goals as goal

pub returns-in-Some-clause-found : goal.returns-in-Some-clause-found
returns-in-Some-clause-found c =
    let found = c.in-Some.ensures.found in
    let same : found.0 ≡ c.in-Some.entries = omega (arith, found.2) in
    record {
      number = c.in_ok-number.number.now;
      is_number = subst (IsNumber c.in_ok-number.number.now) same found.1;
      some = c.if-entries-ge1.true;
      bounded = c.if-entries-le-MOST_ENTRIES.true;
      whole = rw c.in_ok-number.was at
          (strip_prefix_is Decides-eqb c.args.head.now (codes "treesched book 1 entries ") c.strip_prefix.result
          c.strip_prefix.ensures.cases);
    }
