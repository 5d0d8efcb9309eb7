-- What is read from a label counts as one with each state that has it.
use Rattle.tree_machine.specs.FormCode.{cut_code, state_code}
use Rattle.book.proofs.StandingIn.{read_stands}
use Rattle.book.proofs.decoding.decode.Goals as goal

pub returns : goal.returns
returns g c =
    let twin = c.decode.new.self in
    let offsets = c.in-Some-read.offsets in
    let cut = rw c.in-Some-read.is at c.in_ok-read.ensures in
    let law = rw c.deref.ensures at c.decoded_law.ensures in
    record {
      read = cut;
      stands = (λ merge program limits s fits is. read_stands (g.M.Machine.rules c.args.machine) program
          g.M.Encode.own_code g.M.Encode.form_code (g.M.Machine.form_of c.args.machine)
          (state_code (cut_code g.M.Encode.front_code g.M.Encode.behind_code offsets.front) twin) twin
          (law.own offsets.front) (law.named offsets.front) c.args.label.now
          cut.written merge s fits is);
    }
