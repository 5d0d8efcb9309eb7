use Rattle.ellen.proofs.memory_view.visit_search.Goals as goal

pub returns-in-DFlag : goal.returns-in-DFlag
returns-in-DFlag c = rw c.in-DFlag.is c.visit_delete_flag.ensures
