-- The last state has the view of the seat that is every seat.
use Rattle.std.proofs.Common.{arith, rules, ap, sym, ◌∙◌, IsPermutation}
use Rattle.std.proofs.lemmas.List.Sorted.{IsPermutation-trans, IsPermutation-sym, length_permutation}
use Rattle.std.proofs.lemmas.List.FromFn.{length-range_with_len}
use Rattle.claims.specs.Values.{Counter}
use Rattle.claims.specs.Rule.{below}
use Rattle.claims.specs.Seats.{places_drawn}
use Rattle.claims.proofs.Steps.{ends_at}
use Rattle.claims.proofs.Turns.{first_word}
use Rattle.claims.proofs.counter.Claims.close.Goals as goal

pub returns : goal.returns
returns c =
    let last = c.close_with-closed.ensures.values.2 in
    let all =
    c.gather-whole.ensures.held ∙ c.requires.every ∙ ap (λ (s : Counter). s.size.seats) (sym c.self.view_is) in
    let end =
    ends_at _ _ _ _ last.0 _ last.1 c.self.invariant.0 all
    (first_word last.0.words _ c.word-word.result last.2 c.word-word.ensures) in
    let once : IsPermutation (below c.min-drawn.result) (places_drawn c.args.seats.items) =
    rw c.min-drawn.ensures
    (IsPermutation-trans _ _ _ end.0 (IsPermutation-sym _ _ c.gather-whole.ensures.places)) in
    record {
      once = once;
      drawn = sym (length_permutation _ _ once ∙ length-range_with_len 0 c.min-drawn.result);
      spent = omega (arith, end.1, c.gather-whole.ensures.spent, c.min-drawn.ensures);
      within = search rules;
      whole = search rules;
    }
