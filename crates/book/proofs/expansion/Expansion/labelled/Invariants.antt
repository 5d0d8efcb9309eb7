use Rattle.std.proofs.Common.{◌≡◌, ◌≤◌, length, map, take, vec_capacity}
use Rattle.book.specs.Labels.{label_by, labelled}
use Rattle.book.proofs.expansion.Expansion.labelled.Given as goal

abbrev pub invariant-loop-one : goal.invariant-loop-one
invariant-loop-one g l =
    record {
      steps : l.steps.items
          ≡ map (labelled (label_by g.M.Encode.own_code g.M.Encode.form_code
          (g.M.Machine.form_of l.self.machine) l.merge)) (take l.one-index l.self.successors);
      room : length l.self.successors ≤ vec_capacity l.steps;
    }
