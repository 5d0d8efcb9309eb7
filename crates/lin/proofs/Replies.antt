-- A linearization before a reply is one after it exactly if running it gives that reply.
use Rattle.std.proofs.Common.{◌≡◌, ◌≢◌, ℕ, inl, inr, Bool, true, false, true≢false, List, [], ◌∷◌}
use Rattle.std.proofs.Common.{Option, Some, None, refl, sym, ◌∙◌, arith}
use mathlib.Core.Bool.{beq}
use Rattle.std.specs.Option.{option_map}
use Rattle.std.proofs.lemmas.Bool.{cases_Bool}
use Rattle.sched_program.specs.declared.operation.OpId.{OpId}
use Rattle.sched_program.specs.declared.operation.Op.{Op}
use Rattle.sched_program.specs.Name.{same_name, value_at}
use Rattle.sched_program.specs.Program.{Program, op_at}
use Rattle.sched_program.specs.History.{History, reply, IsBegun, EndedBefore}
use Rattle.lin.specs.Keys.{Keys, keys_of, keys_after, reply_on}
use Rattle.lin.specs.Completion.{Listed, listed_in, with_name, StandsNext, Completes, EveryFinishedIsListed}
use Rattle.lin.specs.Linearization.{GivesReplies, IsLinearization}
use Rattle.lin.specs.Reply.{reply_in, ending_with, HasReplied}
use Rattle.lin.proofs.Bounds.{first_given}
use Rattle.lin.proofs.Completions.{IsLinearization-completes, Completes-linearization}
use Rattle.lin.proofs.Names.{same_name_self, same_name-is, with_name-cases, with_name-earlier, with_name-itself}
use Rattle.lin.proofs.Lists.{IsSome-value, IsSomeAnd-value}

differ : (a b : OpId) → same_name b a ≡ false → a ≢ b
differ a b other same = true≢false (sym (same_name_self b) ∙ rw same at other)

-- an operation that replies is one of the program
pub op_of_reply : (o : Option Op) (keys : Keys) (r : Bool) → option_map (λ op. reply_on op keys) o ≡ Some r
    → (op : Op) × (o ≡ Some op) × (r ≡ reply_on op keys)
op_of_reply None keys r h = absurd cc
op_of_reply (Some op) keys r h = (op, refl, cc)

module _ (program : Program) (old new : History) (a : OpId) (r : Bool) (is : HasReplied old new a r) where
  ending-cons : (b : OpId) (rest : List OpId) → same_name b a ≡ false
      → ending_with (b ∷ rest) a ≡ b ∷ ending_with rest a
  ending-cons b rest other = grind (arith, cases_Bool (listed_in rest a))

  -- ---- what had begun had begun, and ended before nothing else
  note_of : (b : OpId) → IsBegun old b
      → (note : List ℕ) × (value_at old.begun b ≡ Some note) × (value_at new.begun b ≡ Some note)
  note_of b h = let note = IsSome-value (value_at old.begun b) h in (note.0, note.1, is.begun b note.0 note.1)

  ended_back : (x b : OpId) → IsBegun old b → EndedBefore new x b → EndedBefore old x b
  ended_back x b h ended = let note = note_of b h in rw note.1 (rw note.2 at ended)

  abbrev AllBegun : Listed → Type 0
  AllBegun listed = (b : OpId) → listed b ≡ true → IsBegun old b

  begun_with : (listed : Listed) (x : OpId) → AllBegun listed → IsBegun old x → AllBegun (with_name listed x)
  begun_with listed x begun here b among = elim (with_name-cases listed x b among) [
    | inl earlier ↦ begun b earlier
    | inr same ↦ rw same at here
  ]

  every_new : (listed : Listed) → listed a ≡ true → EveryFinishedIsListed old listed → EveryFinishedIsListed new listed
  every_new listed here every b finished = elim (cases_Bool (same_name b a)) [
    | inl same ↦ rw (same_name-is b a same) here
    | inr other ↦ every b (rw (is.others b (differ a b other)) at finished)
  ]

  -- ---- what could come next still can, and this operation where it gives its reply
  stands_other : (listed : Listed) (keys next : Keys) (b : OpId) → AllBegun listed
      → StandsNext program old listed keys b next → a ≢ b → StandsNext program new listed keys b next
  stands_other listed keys next b begun s other =
      let op = IsSomeAnd-value (op_at program b.thread b.index) _ s.gives in
      record {
        begun = rw (note_of b s.begun).2 refl;
        new = s.new;
        in_time = λ c among ended.
            s.in_time c among (ended_back b c (begun_with listed b begun s.begun c among) ended);
        gives = rw (op.1, is.others b other) op.2;
      }

  stands_itself : (listed : Listed) (keys : Keys) (o : Op) → listed a ≡ false
      → op_at program a.thread a.index ≡ Some o → r ≡ reply_on o keys
      → StandsNext program new listed keys a (keys_after o keys)
  stands_itself listed keys o fresh at gives = record {
    begun = is.began;
    new = fresh;
    in_time = λ b among. is.last b;
    gives = rw (at, is.replied) (gives, refl);
  }

  rest_completes : (listed : Listed) (keys : Keys) (rest : List OpId) → AllBegun listed → listed a ≡ true
      → Completes program old listed keys rest → Completes program new listed keys rest
  rest_completes listed keys [] begun here every = every_new listed here every
  rest_completes listed keys (b ∷ rest) begun here c = (
    c.0,
    stands_other listed keys c.0 b begun c.1 (λ same. true≢false (sym here ∙ rw (← same) at c.1.new)),
    rest_completes (with_name listed b) c.0 rest (begun_with listed b begun c.1.begun)
        (with_name-earlier listed b a here) c.2,
  )

  completes_ending : (listed : Listed) (keys : Keys) (rest : List OpId) → AllBegun listed → listed a ≡ false
      → Completes program old listed keys rest → reply_in program keys rest a ≡ Some r
      → Completes program new listed keys (ending_with rest a)
  completes_ending listed keys [] begun fresh every stated =
      let own = op_of_reply (op_at program a.thread a.index) keys r stated in (
        keys_after own.0 keys,
        stands_itself listed keys own.0 fresh own.1 own.2,
        every_new (with_name listed a) (with_name-itself listed a)
            (λ b finished. with_name-earlier listed a b (every b finished)),
      )
  completes_ending listed keys (b ∷ rest) begun fresh c stated =
      let begun' = begun_with listed b begun c.1.begun in
      elim (cases_Bool (same_name b a)) [
        | inl same ↦
            let e = same_name-is b a same in
            let own = op_of_reply (op_at program a.thread a.index) keys r (rw same at stated) in
            let gives = rw (e, own.1) at c.1.gives in
            rw same (
              c.0,
              rw (e, gives.1) (stands_itself listed keys own.0 fresh own.1 own.2),
              rest_completes (with_name listed b) c.0 rest begun' (rw (← e) (with_name-itself listed b)) c.2,
            )
        | inr other ↦
            let op = IsSomeAnd-value (op_at program b.thread b.index) _ c.1.gives in
            rw (ending-cons b rest other) (
              c.0,
              stands_other listed keys c.0 b begun c.1 (differ a b other),
              completes_ending (with_name listed b) c.0 rest begun' (rw (fresh, other) refl) c.2
                  (rw (other, op.1, ← op.2.1) at stated),
            )
      ]

  -- a linearization before the reply is one after it, where running it gives that reply
  pub reply_keeps : (order : List OpId) → IsLinearization program old order
      → reply_in program (keys_of program.initial) order a ≡ Some r → IsLinearization program new (ending_with order a)
  reply_keeps order was stated =
      Completes-linearization program new (ending_with order a)
      (completes_ending (listed_in []) (keys_of program.initial) order (λ b none. absurd (true≢false (sym none))) refl
      (IsLinearization-completes program old order was) stated)

  -- an order that gives all replies gives this one
  given_ending : (keys : Keys) (order : List OpId) → GivesReplies program new keys (ending_with order a)
      → reply_in program keys order a ≡ Some r
  given_ending keys [] given =
      let op = first_given program new keys a [] given in
      let own : r ≡ reply_on op.0 keys = rw is.replied at op.2.0 in rw op.1 (cc)
  given_ending keys (b ∷ rest) given = elim (cases_Bool (same_name b a)) [
    | inl same ↦
        let op = first_given program new keys b rest (rw same at given) in
        let e = same_name-is b a same in
        let own : reply new b ≡ Some r = rw e is.replied in
        let stated : r ≡ reply_on op.0 keys = rw own at op.2.0 in rw (same, ← e, op.1) (cc)
    | inr other ↦
        let op = first_given program new keys b (ending_with rest a) (rw (ending-cons b rest other) at given) in
        rw (other, op.1) (given_ending (keys_after op.0 keys) rest op.2.1)
  ]

  -- and one after it gives that reply
  pub kept_reply : (order : List OpId) → IsLinearization program new (ending_with order a)
      → reply_in program (keys_of program.initial) order a ≡ Some r
  kept_reply order now = given_ending (keys_of program.initial) order now.replies

-- answers that the test tells apart differ
pub not_same : (stated r : Bool) → beq stated r ≡ false → stated ≡ r → ⊥
not_same true r h e = true≢false (rw (← e) at h)
not_same false r h e = true≢false (rw (← e) at h)
