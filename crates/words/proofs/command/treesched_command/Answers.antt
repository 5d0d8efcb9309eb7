use Rattle.std.proofs.Common.{ap, ap₂, codes, ◌∙◌, ◌≡◌}
use Rattle.std.proofs.lemmas.Result.{IfOk-weaker}
use Rattle.clap.specs.Words.{App, app_of, new_app, with_subcommand}
use Rattle.clap.specs.Simple.{app_of_fields}
use Rattle.words.specs.Command as line
use Rattle.words.proofs.command.treesched_command.Goals as goal

pub returns : goal.returns
returns c =
    let named : app_of c.after_help.result ≡ new_app (codes "treesched") =
    ap app_of_fields c.after_help.ensures ∙ ap app_of_fields c.about.ensures ∙ c.new.ensures.app in
    let top : app_of c.subcommand_required.result ≡ line.wanting_subcommand (new_app (codes "treesched")) =
    ap app_of_fields c.subcommand_required.ensures ∙ ap line.wanting_subcommand named in
    let line = c.in_ok-explore.ensures.app in
    let subcommand = λ (a b : App). with_subcommand a b.top in
    let explore = c.in_ok-subcommand.ensures.shape c.in_ok-explore.ensures.local ∙ ap₂ subcommand top line.2 in
    let replay = c.in_ok-subcommand-2.ensures.shape c.in_ok-replay.ensures.local
    ∙ ap₂ subcommand explore c.in_ok-replay.ensures.app in
    IfOk-weaker c.subcommand-3.result _ _
    (λ m h. (line.0, line.1, h.shape c.in_ok-check.ensures.local ∙ ap₂ subcommand replay c.in_ok-check.ensures.app))
    c.subcommand-3.ensures
