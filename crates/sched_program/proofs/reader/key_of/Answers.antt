-- The number that the value is read as is a key exactly if it is small.
use Rattle.std.proofs.Common.{◌≡◌, ℕ, Some, arith, option_and_then}
use Rattle.serde_json.specs.Data.{Data, unsigned, number}
use Rattle.serde_json.specs.Find.{as_number, as_u64}
use Rattle.serde_json.specs.View.{view}
use Rattle.sched_program.proofs.reader.key_of.Goals as goal

number_is : (value : Data) (n : ℕ) → Some n ≡ option_and_then as_u64 (as_number value) → value ≡ number (unsigned n)
number_is (number (unsigned m)) n is = cc
number_is value n is = cc

pub returns-in-Some-clause-found : goal.returns-in-Some-clause-found
returns-in-Some-clause-found c =
    (number_is (view c.args.value.now) c.in-Some.n c.in-Some.ensures, c.if-n-lt100.true)

pub returns-in_default-clause-none : goal.returns-in_default-clause-none
returns-in_default-clause-none c = λ key has.
    let same : c.in-Some.n ≡ key = cc (number_is (view c.args.value.now) c.in-Some.n c.in-Some.ensures, has.0) in
    omega (arith, has.1)
