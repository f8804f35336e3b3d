-- What `run` promises of each command. A new command adds its case, and a record in a file of its own.
use Rattle.std.specs.Prelude.{◌≡◌, ◌⊎◌, ℕ, List, Option, Some, None, String}
use Rattle.std.specs.Global.{Global}
use Rattle.rv_words.specs.declared.command.Command.{Command}
use Rattle.rv_words.specs.declared.command.Command.TheVariants.{Feed, Retire, Lists, Activity, Check, CloseBook, Follow, Make, Serve, Ship, Export, Import}
use Rattle.rv_cli.specs.declared.ending.Ending.TheVariants.{Memory}
use Rattle.rv_cli.specs.Commands.{asked_by}
use Rattle.rv_cli.specs.Headline.{ReportsActivity, ReportsLists, ReportsSound, ReportsView, WritesLines, WritesOnly, WritesWhole}
use Rattle.rv_cli.specs.Running.{Outside, Run}
use Rattle.rv_cli.specs.FeedPromise.{KeepsFeed}
use Rattle.rv_cli.specs.ReplyPromises.{KeepsClosing, KeepsRetire}
use Rattle.rv_cli.specs.ReportPromise.{KeepsReport}
use Rattle.rv_cli.specs.ImportPromise.{KeepsImport}
use Rattle.rv_cli.specs.ServePromise.{KeepsServe}
use Rattle.rv_cli.specs.MakePromise.{KeepsMake}
use Rattle.rv_cli.specs.FollowPromise.{KeepsFollow}
use Rattle.rv_cli.specs.Texts.{status_text, usage_text}

module _ (o : Outside) where
  -- the status is this and its text is written, and nothing else has changed
  pub record OnlyTells (status : ℕ) (text : List ℕ) (r : Run o) : Type 0 where
    pub is : r.status ≡ status
    pub told : WritesOnly (o.output.state r.old.output) (o.output.state r.new.output) text
    pub place : r.new.place ≡ r.old.place
    pub input : r.new.input ≡ r.old.input
    pub net : r.new.net ≡ r.old.net

  -- By the command that is asked for. Where the words are no line of the command set, status 2 tells it.
  abbrev pub Promises : Option Command → Run o → Type 0
  Promises None r = OnlyTells 2 usage_text r
  Promises (Some (Feed store)) r = KeepsFeed o store r
  Promises (Some (Serve store options)) r = KeepsServe o store options r
  Promises (Some (Retire store group)) r = KeepsRetire o store group r
  Promises (Some (CloseBook store)) r = KeepsClosing o store r
  Promises (Some (Lists store)) r = KeepsReport o store (WritesWhole ReportsLists) r
  Promises (Some (Activity store)) r = KeepsReport o store (WritesWhole ReportsActivity) r
  Promises (Some (Check store)) r = KeepsReport o store (WritesWhole ReportsSound) r
  Promises (Some (Export store user)) r = KeepsReport o store (WritesWhole (ReportsView user)) r
  Promises (Some (Ship store)) r = KeepsReport o store WritesLines r
  Promises (Some (Import store user name)) r = KeepsImport o store user name r
  Promises (Some (Make seed requests)) r = KeepsMake o seed requests r
  Promises (Some (Follow port)) r = KeepsFollow o port r

  -- That is promised of what the words ask for; or memory was refused in reading them, and status 8 tells it.
  abbrev pub Obeys : List (String Global) → Run o → Type 0
  Obeys words r = Promises (asked_by words) r ⊎ OnlyTells 8 (status_text Memory) r
