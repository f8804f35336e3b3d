use Rattle.std.proofs.Common.{◌≡◌, ℕ, List, Option, Ok, ◌∙◌, sym}
use Rattle.std.specs.List.{slice_get}
use Rattle.std.specs.Option.{option_map}
use Rattle.rv_base.specs.Sorted.{IsPositionOf}
use Rattle.rv_book.specs.declared.clients.ClientRef.{ClientRef}
use Rattle.rv_book.specs.declared.clients.ClientRow.{ClientRow}
use Rattle.rv_book.specs.Book.{Book}
use Rattle.rv_book.specs.Logs.{logged}
use Rattle.rv_book.specs.Indexes.{client_of_row, AreClientRows}
use Rattle.rv_book.specs.Registers.{clients_of}
use Rattle.rv_book.proofs.ClientLaws.{gives_none}
use Rattle.rv_book.proofs.InfoLaws.{TellsClient, named-at, tells_client, told_where}
use Rattle.rv_book.proofs.clients.info.Goals as goal

abbrev tell : ClientRef → List ℕ × List ℕ × ℕ
tell info = (info.client.now, info.group.now, info.last)

-- what is told of the client whose row stands at the index
tells : (book : Book) (client : List ℕ) (rows : List ClientRow) (at : ℕ) (info : Option ClientRef) → AreClientRows book rows → IsPositionOf (client_of_row book) client rows (Ok at) → option_map tell info ≡ slice_get (clients_of book) at
    → TellsClient tell client book info
tells book client rows at info h found is = tells_client tell client book info (is ∙ named-at client book rows at h found)

pub returns-in-Ok-clause-name : goal.returns-in-Ok-clause-name
returns-in-Ok-clause-name c = (tells (logged c.args.log) c.args.client.now c.args.rows.now c.in-Ok.at c.info_at.result c.requires.rows c.in-Ok.ensures.now c.info_at.ensures.info).name

pub returns-in-Ok-clause-group : goal.returns-in-Ok-clause-group
returns-in-Ok-clause-group c = (tells (logged c.args.log) c.args.client.now c.args.rows.now c.in-Ok.at c.info_at.result c.requires.rows c.in-Ok.ensures.now c.info_at.ensures.info).group

pub returns-in-Ok-clause-last : goal.returns-in-Ok-clause-last
returns-in-Ok-clause-last c = (tells (logged c.args.log) c.args.client.now c.args.rows.now c.in-Ok.at c.info_at.result c.requires.rows c.in-Ok.ensures.now c.info_at.ensures.info).acts

pub returns-in-Ok-clause-bound : goal.returns-in-Ok-clause-bound
returns-in-Ok-clause-bound c = (tells (logged c.args.log) c.args.client.now c.args.rows.now c.in-Ok.at c.info_at.result c.requires.rows c.in-Ok.ensures.now c.info_at.ensures.info).bound c.requires.lasts

pub returns-in-Ok-clause-at : goal.returns-in-Ok-clause-at
returns-in-Ok-clause-at c = told_where tell (λ (info : ClientRef). info.at) (clients_of (logged c.args.log)) c.in-Ok.at c.info_at.result c.info_at.ensures.info c.info_at.ensures.at

pub returns-in-Err-clause-group : goal.returns-in-Err-clause-group
returns-in-Err-clause-group c = (gives_none (logged c.args.log) c.args.client.now (sym c.in-Err.ensures.now.absent ∙ c.requires.rows.found c.args.client.now)).0

pub returns-in-Err-clause-last : goal.returns-in-Err-clause-last
returns-in-Err-clause-last c = (gives_none (logged c.args.log) c.args.client.now (sym c.in-Err.ensures.now.absent ∙ c.requires.rows.found c.args.client.now)).1
