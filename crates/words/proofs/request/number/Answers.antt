use Rattle.std.specs.Str.Parse.{ParsesUnsigned, ExplainsUnsignedError, HasUnsignedDigitsIfOk}
use Rattle.clap.specs.Words.{found_of, one_text, rows_of}
use Rattle.clap.proofs.WalkLemmas.{one_text-rows}
use Rattle.words.proofs.Requests.{number_read}
use Rattle.words.proofs.request.number.Goals as goal

pub returns : goal.returns
returns c =
    let found = found_of c.args.matches.now in
    number_read (λ bs r. ParsesUnsigned 64 10 bs r × ExplainsUnsignedError 10 bs r × HasUnsignedDigitsIfOk bs r) 64
    (λ t r g. g.0)
    (rows_of found) c.args.id.now (one_text found c.args.id.now) (one_text-rows found c.args.id.now) c.get_one.result
    c.get_one.ensures.none c.get_one.ensures.value
