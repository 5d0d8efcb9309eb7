use Rattle.std.proofs.Common.{Ok, codes, rules}
use Rattle.clap.specs.Words.{found_of, rows_of}
use Rattle.words.proofs.Parsed.{checking, exploring, no_other, replaying}
use Rattle.words.proofs.Requests.{asked_or_refused}
use Rattle.words.proofs.request.request_of.Goals as goal

pub explore_of-requires : goal.explore_of-requires
explore_of-requires c =
    let has = exploring c.requires.0 _ (rows_of (found_of c.args.matches.now)) c.requires.1 (search rules) in
    record { file = has.0; options = has.1 }

pub returns-in-explore : goal.returns-in-explore
returns-in-explore c = λ words are.
    asked_or_refused words _ _ are (codes "explore") (search rules) c.explore_of.result c.explore_of.ensures

pub replay_of-requires : goal.replay_of-requires
replay_of-requires c =
    let has = replaying c.requires.0 _ (rows_of (found_of c.args.matches.now)) c.requires.1 (search rules) in
    record { file = has.0; schedule = has.1 }

pub returns-in-replay : goal.returns-in-replay
returns-in-replay c = λ words are.
    asked_or_refused words _ _ are (codes "replay") (search rules) c.replay_of.result c.replay_of.ensures

pub check_of-requires : goal.check_of-requires
check_of-requires c =
    let has = checking c.requires.0 _ (rows_of (found_of c.args.matches.now)) c.requires.1 (search rules) in
    record { file = has.0; book = has.1 }

pub returns-in-check : goal.returns-in-check
returns-in-check c = λ words are.
    asked_or_refused words _ _ are (codes "check") (search rules) (Ok c.check_of.result) c.check_of.ensures

pub unreachable-requires : goal.unreachable-requires
unreachable-requires c = no_other c.requires.0 _ _ c.requires.1 (search rules) (search rules) (search rules)
