-- The names of an order, as a line of a book file stores them.
use Rattle.std.specs.Prelude.{List}
use Rattle.sched_program.specs.declared.operation.OpId.{OpId}
use Rattle.replay.specs.declared.file.line.Storage.{Storage}
use Rattle.replay.specs.declared.file.line.Storage.TheVariants as storage

abbrev pub names_of : Storage → List OpId
names_of (storage.Inline names) = names
names_of (storage.Boxed names) = names.value
