-- A state whose own bytes are the named code of another one is alike to that one, and fits the same program.
use Rattle.std.proofs.Common.{arith, ◌≡◌, ℕ, zero, suc, List, ◌∷◌, map, length, sym, ◌∙◌, ap, refl}
use Rattle.std.specs.Prelude.{Option, Some, None, is_some, slice_get}
use Rattle.std.specs.List.{AllZip}
use Rattle.std.proofs.lemmas.List.{length-map}
use Rattle.std.specs.Option.{option_map}
use Rattle.std.proofs.lemmas.Option.{get_or_from_slice_get, same_Some, slice_get-map, slice_get_within}
use Rattle.sched_program.specs.Program.{Program}
use Rattle.tree_machine.specs.Alike.{AreStatesAlike, FormContent, places_of, replies_of}
use Rattle.tree_machine.specs.FormCode.{named_code, state_code}
use Rattle.tree_machine.specs.InRange.{AreNumbersInRange}
use Rattle.tree_machine.specs.Pairing.{AreAlike, AreHeldPaired}
use Rattle.tree_machine.specs.Rules.{Rules, ArePlacesInRange, DecodesForms}
use Rattle.tree_machine.specs.Step.{Fits}
use Rattle.tree_machine.specs.Laws.FormCode.{state_content, state_pieces}
use Rattle.tree_machine.specs.declared.state.Thread.{Thread}
use Rattle.tree_machine.specs.declared.state.State.{State}

-- ---- lists that are equal under a map, or paired place by place

-- what a mapped option holds is made of what the option holds
pub map_some : {A B : Type 0} (f : A → B) (held : Option A) (y : B) → option_map f held ≡ Some y
    → (x : A) × (held ≡ Some x) × (y ≡ f x)
map_some f None y h = cc
map_some f (Some x) y h = (x, refl, sym (same_Some _ _ h))

-- where lists have equal values of f and of g, and paired ones of h, each element has such a twin at its place
twin_at : {A B C D : Type 0} (f : A → B) (g : A → C) (h : A → D) (P : D → D → Type 0) (xs ys : List A)
    → map f xs ≡ map f ys → map g xs ≡ map g ys → AllZip P (map h ys) (map h xs) → (t : ℕ) (x : A)
    → slice_get xs t ≡ Some x
    → (y : A) × (slice_get ys t ≡ Some y) × (f x ≡ f y) × (g x ≡ g y) × P (h y) (h x)
twin_at f g h P (x ∷ xs) (y ∷ ys) e d z zero v at = grind arith
twin_at f g h P (x ∷ xs) (y ∷ ys) e d z (suc t) v at = twin_at f g h P xs ys (cc) (cc) z.1 t v at
twin_at f g h P _ _ e d z t v at = cc

-- both options hold a value, or neither does
pub held_are_some : {A : Type 0} (P : A → A → Type 0) (held twin : Option A) → AreHeldPaired P held twin
    → is_some held ≡ is_some twin
held_are_some P held twin k = grind arith

module _ {Machine Memory Place Form : Type 0} (rules : Rules Memory Place)
    (form_of : Memory → List (Option Place) → Form) (form_code : Form → List ℕ)
    (own_code : Memory → List (Option Place) → List ℕ) (decodes : DecodesForms rules form_of form_code own_code)
    (s c : State Machine Memory Place Form) (range : AreNumbersInRange rules s)
    (same : state_code own_code c ≡ named_code form_code form_of s) where
  pieces : (c.steps ≡ 0) × (state_content own_code c ≡ state_content (λ m held. form_code (form_of m held)) s)
  pieces = state_pieces own_code c 0 (state_content (λ m held. form_code (form_of m held)) s) same

  same_replies : replies_of c.threads ≡ replies_of s.threads
  same_replies = ap (λ (x : FormContent (List ℕ)). x.replies) pieces.1

  many : length (places_of s.threads) ≡ length (places_of c.threads)
  many = simp length-map (simp length-map at (ap length (sym same_replies)))

  decoded : rules.IsInRange c.memory × ArePlacesInRange rules c.memory (places_of c.threads)
      × AreAlike rules.pairs s.memory (places_of s.threads) c.memory (places_of c.threads)
  decoded =
      decodes s.memory c.memory (places_of s.threads) (places_of c.threads) range.memory range.places many
      (ap (λ (x : FormContent (List ℕ)). x.form) pieces.1)

  -- it has no steps
  pub decoded_steps : c.steps ≡ 0
  decoded_steps = pieces.0

  pub decoded_alike : AreStatesAlike rules s c
  decoded_alike = grind (arith, decoded, pieces)

  pub decoded_fits : (program : Program) → Fits rules program s → Fits rules program c
  decoded_fits program fits = record {
    memory = decoded.0;
    thread_count = (simp length-map at (ap length same_replies)) ∙ fits.thread_count;
    threads = λ t ops thread ops_at thread_at.
        let notes = ap (λ (x : FormContent (List ℕ)). x.notes) pieces.1 in
        let w =
        twin_at (λ (x : Thread Place). x.replies) (λ x. x.notes) (λ x. x.place)
        (AreHeldPaired (rules.pairs.places decoded.2.0)) c.threads s.threads same_replies notes decoded.2.2 t thread
        thread_at in
        let twin = w.0 in
        let twin_fits = fits.threads t ops twin ops_at w.1 in
        let held : is_some thread.place ≡ is_some twin.place =
        sym (held_are_some (rules.pairs.places decoded.2.0) twin.place thread.place w.4) in
        record {
          begun = rw w.3 twin_fits.begun;
          notes = rw w.3 twin_fits.notes;
          replies = cc (w.2, held, w.3, twin_fits.replies);
          place =
              let is =
              slice_get-map (λ (x : Thread Place). x.place) c.threads t ∙ ap (option_map (λ x. x.place)) thread_at in
              rw (get_or_from_slice_get (places_of c.threads) t thread.place thread.place is) at
              (decoded.1 t thread.place (simp length-map (slice_get_within c.threads t thread thread_at)));
        };
  }
