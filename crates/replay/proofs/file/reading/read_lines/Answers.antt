use Rattle.std.proofs.Common.{◌≡◌, ◌⊎◌, codes, refl, inl, inr}
use Rattle.std.proofs.lemmas.Bool.Decides.{Decides-eqb}
use Rattle.std.proofs.lemmas.Result.{IfOk-weaker, IfErr-weaker}
use Rattle.std.proofs.lemmas.Slice.Eq.{strip_prefix_is}
use Rattle.replay.specs.declared.file.fault.CheckFault.TheVariants.{OutOfMemory}
use Rattle.replay.specs.Text.Files.{IsBookText, IsFormFault}
use Rattle.replay.proofs.Text.Heads.{after_start, is_book, entries_fault, start_fault}
use Rattle.replay.proofs.Text.OneReading.{lines_bounded}
use Rattle.replay.proofs.file.reading.read_lines.Goals as goal

pub returns-in_default-clause-refused : goal.returns-in_default-clause-refused
returns-in_default-clause-refused c =
    inr (1, refl, inl (record { misformed = c.in_default.ensures.none; place = refl }))

pub entry_lines-requires : goal.entry_lines-requires
entry_lines-requires c =
    let has = c.in-Some.ensures.found in
    let e = rw c.in-Some-strip_prefix.is at
    (strip_prefix_is Decides-eqb c.in-Some.rest.now (codes "- - -\n") _ c.strip_prefix.ensures.cases) in
    let after = after_start has.1 has.2 e in
    (after.0, after.2, after.3)

pub returns-in-Some-strip_prefix : goal.returns-in-Some-strip_prefix
returns-in-Some-strip_prefix c =
    let bytes = c.args.bytes.now in
    let has = c.in-Some.ensures.found in
    let e = rw c.in-Some-strip_prefix.is at
    (strip_prefix_is Decides-eqb c.in-Some.rest.now (codes "- - -\n") _ c.strip_prefix.ensures.cases) in
    let r = c.entry_lines.result in
    let book = IfOk-weaker r _ (λ v. IsBookText bytes v.items)
    (λ v are. is_book has.1 has.2 e are) c.entry_lines.ensures.ok in
    record {
      book = book;
      bounded = IfOk-weaker r (λ v. IsBookText bytes v.items) _ (λ v is. lines_bounded bytes v.items is) book;
      refused = IfErr-weaker r _ (λ stated. (stated ≡ OutOfMemory) ⊎ IsFormFault bytes stated)
          (λ stated is. entries_fault stated has.1 has.2 e is) c.entry_lines.ensures.err;
    }

pub returns-in-None-clause-refused : goal.returns-in-None-clause-refused
returns-in-None-clause-refused c =
    let has = c.in-Some.ensures.found in
    let none = rw c.in-None.is at
    (strip_prefix_is Decides-eqb c.in-Some.rest.now (codes "- - -\n") _ c.strip_prefix.ensures.cases) in
    inr (2, refl, start_fault has.0 has.1 has.2 none)
