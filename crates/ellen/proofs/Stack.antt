-- The stack of awaited backtracks.
use Rattle.std.proofs.Common.{◌≡◌, ℕ, Bool, List, [], ◌∷◌, ◌++◌, refl}
use Rattle.ellen.specs.Types.{Goes, Base, Resume, Back, Help}
use Rattle.ellen.specs.Table.{returned, top_taken}

top_taken-append : (r : ℕ) (stack : List ℕ) (top : ℕ) → top_taken r (stack ++ top ∷ []) ≡ (r ∷ stack, top)
top_taken-append r [] top = refl
top_taken-append r (s ∷ stack) top = rw (top_taken-append s stack top)

back : (done : Bool) (stack : List ℕ) (top : ℕ) (b : Base)
    → returned done (record { stack = stack ++ top ∷ []; base = b })
    ≡ Goes (Help (Back top) (record { stack = stack; base = b }))
back done [] top b = refl
back done (r ∷ stack) top b = rw (top_taken-append r stack top)

pub returned_is : (done : Bool) (resume : Resume) (stack : List ℕ) (top : ℕ) → resume.stack ≡ stack ++ top ∷ []
    → Goes (Help (Back top) (record { stack = stack; base = resume.base })) ≡ returned done resume
returned_is done resume stack top e = rw (e, back done stack top resume.base)
