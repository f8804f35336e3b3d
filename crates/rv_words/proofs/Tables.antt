-- What clap makes of a command that another is added to.
use Rattle.std.proofs.Common.{◌≡◌, ◌∙◌, ◌||◌, ap₂, false}
use Rattle.clap.specs.Words.{AddsArg, AddsSubcommand, App, app_of, with_subcommand}
use Rattle.clap.specs.declared.builder.Arg.{Arg}
use Rattle.clap.specs.declared.builder.command.Command.{Command}
use Rattle.clap.specs.declared.builder.command.Command.TheViews.{out-Command}

pub stays_local : (old : Command) (arg : Arg) (new : Command) → AddsArg old arg new → arg.global ≡ false
    → (out-Command old).has_globals ≡ false → (out-Command new).has_globals ≡ false
stays_local old arg new adds global local = adds.globals ∙ ap₂ (λ x y. x || y) local global

pub subcommand_added : (old sub new : Command) (above below : App) → AddsSubcommand old sub new → (out-Command sub).has_globals ≡ false
    → app_of old ≡ above → app_of sub ≡ below → app_of new ≡ with_subcommand above below.top
subcommand_added old sub new above below adds local is_above is_below =
    adds.shape local ∙ ap₂ (λ (a : App) (b : App). with_subcommand a b.top) is_above is_below
