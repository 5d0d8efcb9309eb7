use Rattle.std.proofs.Common.{refl, arith}
use Rattle.reports.proofs.Soundness.{none_unsound}
use Rattle.reports.proofs.driving.expand_layer.Goals as goal

pub layer-init : goal.layer-init
layer-init g c =
    let stands = c.requires.stands in
    record {
      kept = record { machine = refl; program = refl; merge = refl; limit = refl };
      ledger = c.requires.ledger;
      in_layer = record {
        none_taken = stands.none_taken;
        through = record {
          done = stands.done;
          sound = (λ i e at _. none_unsound c.args.book.now.entries c.requires.sound i e at);
        };
        fresh = (λ i e at deep. absurd (omega (arith, stands.shallow i e at)));
        shallow = (λ i e at. omega (arith, stands.shallow i e at));
      };
    }

pub returns-clause-next : goal.returns-clause-next
returns-clause-next g c =
    let here = c.layer.invariant.in_layer in
    record {
      none_taken = here.none_taken;
      done = (λ i e at less. c.is_left_to.ensures.none c.layer-test.false i e at (omega (arith, less)));
      fresh = here.fresh;
      shallow = here.shallow;
      sound = (λ i e at less. here.through.sound i e at (omega (arith, less)));
    }
