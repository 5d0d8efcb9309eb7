use Rattle.std.proofs.Common.{◌∙◌, ◌+◌, ◌++◌, List, ℕ, codes, get_or, arith, ap, append_assoc}
use Rattle.std.specs.Fmt.{decimal}
use Rattle.std.specs.String.{string_bytes}
use Rattle.reports.specs.declared.answer.Share.{Share}
use Rattle.treesched_lib.specs.Lines.{counts_text}
use Rattle.treesched_lib.proofs.Ledgers.{one_more_worker, worker_text}
use Rattle.treesched_lib.proofs.lines.put_workers.Goals as goal

pub loop-i-preserved : goal.loop-i-preserved
loop-i-preserved c =
    let blank : Share = record { expanded = 0; entered = 0; met = 0 } in
    let i = c.loop-i.i in
    let s = get_or c.args.shares.now i blank in
    let counts : List ℕ = counts_text s.expanded s.entered s.met in
    c.in_ok-put_counts.ensures ∙ ap (λ (l : List ℕ). l ++ counts) c.in_ok-write.ensures.bytes
    ∙ append_assoc (string_bytes c.loop-i.page) (codes "worker " ++ decimal (i + 1)) counts
    ∙ ap (λ (l : List ℕ). l ++ worker_text (i + 1) s) c.loop-i.invariant
    ∙ one_more_worker (string_bytes c.args.page.now) c.args.shares.now i blank (omega arith)
