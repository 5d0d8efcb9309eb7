-- The lines of one more worker, and of a report.
use Rattle.std.proofs.Common.{◌≡◌, ◌∙◌, ◌+◌, ◌++◌, ◌<◌, ℕ, List, [], ◌∷◌, length, take, get_or, codes, arith, sym, ap}
use Rattle.std.proofs.Common.{Bool, true, false}
use Rattle.std.proofs.Common.{append_assoc, append-nil}
use Rattle.std.proofs.lemmas.List.{length-take-le, take_more}
use Rattle.std.specs.Fmt.{decimal}
use Rattle.book.specs.declared.book.Totals.{Totals}
use Rattle.reports.specs.declared.answer.Answer.{Answer}
use Rattle.reports.specs.declared.answer.Share.{Share}
use Rattle.treesched_lib.specs.Lines.{IsPage, answer_text, counts_text, ledger_text, report_text, workers_text}
use Rattle.treesched_lib.specs.declared.serving.Output.{Output}

abbrev pub worker_text : ℕ → Share → List ℕ
worker_text n s = codes "worker " ++ decimal n ++ counts_text s.expanded s.entered s.met

workers_text-push : (first : ℕ) (xs : List Share) (s : Share)
    → workers_text first (xs ++ s ∷ []) ≡ workers_text first xs ++ worker_text (first + length xs) s
workers_text-push first [] s =
    append-nil (worker_text first s) ∙ ap (λ (n : ℕ). worker_text n s) (omega arith)
workers_text-push first (x ∷ xs) s =
    let more = workers_text-push (first + 1) xs s in
    let same : first + 1 + length xs ≡ first + length (x ∷ xs) = omega arith in
    ap (λ l. worker_text first x ++ l) (more ∙ ap (λ n. workers_text (first + 1) xs ++ worker_text n s) same)
    ∙ sym (append_assoc (worker_text first x) (workers_text (first + 1) xs) (worker_text (first + length (x ∷ xs)) s))

pub one_more_worker : (page : List ℕ) (shares : List Share) (i : ℕ) (s : Share) → i < length shares
    → (page ++ workers_text 1 (take i shares)) ++ worker_text (i + 1) (get_or shares i s) ≡ page
    ++ workers_text 1 (take (i + 1) shares)
one_more_worker page shares i s h =
    let taken : 1 + length (take i shares) ≡ i + 1 = omega (arith, length-take-le i shares (omega arith)) in
    rw (take_more shares i s h, workers_text-push 1 (take i shares) (get_or shares i s), taken)
    (append_assoc page (workers_text 1 (take i shares)) (worker_text (i + 1) (get_or shares i s)))

-- a report is the answer, and then the ledger where it is asked for
pub with_ledger : (old printed new : List ℕ) (answer : Answer) (totals : Totals) (given shares : List Share)
    (asked : Bool) → asked ≡ true → given ≡ shares → printed ≡ old ++ answer_text totals.entries answer
    → new ≡ printed ++ ledger_text given totals → new ≡ old ++ report_text asked answer totals shares
with_ledger old printed new answer totals given shares true is same answered more =
    rw (more, same, answered) (append_assoc old (answer_text totals.entries answer) (ledger_text shares totals))
with_ledger old printed new answer totals given shares false is same answered more = absurd (cc)

pub without_ledger : (old new : List ℕ) (answer : Answer) (totals : Totals) (shares : List Share) (asked : Bool)
    → asked ≡ false → new ≡ old ++ answer_text totals.entries answer
    → new ≡ old ++ report_text asked answer totals shares
without_ledger old new answer totals shares true is answered = absurd (cc)
without_ledger old new answer totals shares false is answered =
    rw (append-nil (answer_text totals.entries answer)) answered

-- the lines that are put on an empty page are all that is there
pub on_empty : (page empty text : List ℕ) → page ≡ empty ++ text → empty ≡ [] → page ≡ text
on_empty page empty text put none = rw none at put

pub both_on_empty : (empty middle page first shown second : List ℕ) → empty ≡ [] → middle ≡ empty ++ first
    → first ≡ shown → page ≡ middle ++ second → page ≡ shown ++ second
both_on_empty empty middle page first shown second none put same more = rw (put, none, same) at more

-- a page with another name for its status and for its text
pub as_page : (status printed : ℕ) (text lines : List ℕ) (output : Output) → IsPage status text output → status
    ≡ printed
    → text ≡ lines → IsPage printed lines output
as_page status printed text lines output page same alike = (page.0 ∙ same, page.1 ∙ alike, page.2, page.3)
