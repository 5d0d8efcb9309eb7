use Rattle.std.proofs.Common.{◌≡◌, ◌+◌, ◌*◌, ◌∷◌, arith, get_or, length, ap, refl, ◌∙◌}
use Rattle.tree_machine.specs.Laws.FirstBytes.{first_five}
use Rattle.ellen.specs.declared.place.Resume.{Resume}
use Rattle.ellen.proofs.HeldBytes.{help_coded}
use Rattle.ellen.proofs.reading.help.read_help.Goals as goal

pub returns : goal.returns
returns c =
    let bytes = c.args.bytes.now in
    let at = c.in-Some-help_of.at in
    let base = c.in-Some-base_of.base in
    let resume : Resume = record { stack = c.read_stack.new.stack; base = base } in
    let is = c.in-Some-help_of.ensures in
    let read = c.in_ok-behind.ensures in
    let stack = rw c.in-Some-2.is at read.stack in
    let count = rw c.in-Some-2.is at read.count in
    let head : c.args.head ≡ 69 + 30 * length resume.stack = omega (arith, count, c.in-Some.ensures.head) in
    let below = rw c.in-Some-2.is at read.small in
    let coded = help_coded at resume below (omega (arith, count, c.in-Some.ensures.bounded)) in
    ap (λ l. c.args.head ∷ 5 ∷ l) (first_five bytes (omega arith)
    ∙ ap (λ l. get_or bytes 0 0 ∷ get_or bytes 1 0 ∷ get_or bytes 2 0 ∷ get_or bytes 3 0 ∷ get_or bytes 4 0 ∷ l) stack)
    ∙ rw (coded, is.kind, is.side, c.in-Some-base_of.ensures, is.other, is.own, head) refl
