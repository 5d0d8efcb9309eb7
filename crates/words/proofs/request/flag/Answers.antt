use Rattle.std.specs.declared.str.ParseBoolError.{ParseBoolError}
use Rattle.clap.specs.Words.{found_of, one_text, rows_of}
use Rattle.clap.proofs.WalkLemmas.{one_text-rows}
use Rattle.words.proofs.Requests.{flag_read}
use Rattle.words.proofs.request.flag.Goals as goal

pub returns : goal.returns
returns c =
    let found = found_of c.args.matches.now in
    flag_read ParseBoolError (rows_of found) c.args.id.now (one_text found c.args.id.now)
    (one_text-rows found c.args.id.now) c.get_one.result
    c.get_one.ensures.none c.get_one.ensures.value c.eq.result c.eq.ensures
