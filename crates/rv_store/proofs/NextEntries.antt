-- What an entry changes at a state where it may be entered: the changes enter it among the cells of the state's book.
use Rattle.std.proofs.Common.{◌≡◌, ℕ, ◌+◌, ◌^◌, ◌<◌, List, Some, sym, subst, arith}
use Rattle.rv_book.specs.declared.entry.Entry.TheVariants.{Retire}
use Rattle.rv_book.specs.Book.{size, bound}
use Rattle.rv_history.specs.Replay.{IsReplay}
use Rattle.rv_history.specs.Served.{Next}
use Rattle.rv_news.specs.Records.{Placed, AreRecords}
use Rattle.rv_keeper.specs.declared.change.Change.{Change}
use Rattle.rv_state.specs.declared.prepared.Prepared.TheVariants as prepared
use Rattle.rv_state.specs.declared.prepared.PreparedAct.{PreparedAct}
use Rattle.rv_state.specs.declared.prepared.PreparedLook.{PreparedLook}
use Rattle.rv_state.specs.Standing.{Standing}
use Rattle.rv_state.specs.Ready.{IsPrepared, act_entry, look_entry}
use Rattle.rv_store.specs.EntryChanges.{act_changes, look_changes, retire_changes, Enters}
use Rattle.rv_store.proofs.NextCells.{act_are, act_next, look_are, look_next, retire_are, retire_next}

module _ (s : Standing) (range : s.limit < 2 ^ 32) where
  fits : size s.book < s.limit → size s.book + 1 < 2 ^ 32
  fits below = omega (arith, below, range)

  pub enters_act : (act : PreparedAct) (changes : List Change) → IsReplay s.book s.rows → IsPrepared s (prepared.Act act) → changes ≡ act_changes s.book act.user act.group act.client act.id act.call act.staged → Enters s.book (Next.entry (act_entry act)) changes
  enters_act act changes replay ready made =
      subst (λ (cs : List Change). Enters s.book (Next.entry (act_entry act)) cs) (sym made) (record {
        are = act_are s.book s.rows act.user act.group act.client act.id act.call act.staged (fits ready.below) replay ready.lawful ready.effect.1;
        leads = act_next s.book s.rows act.user act.group act.client act.id act.call act.staged (fits ready.below) replay ready.lawful ready.effect.1 ready.effect.2;
      })

  pub enters_look : (look : PreparedLook) (changes : List Change) → IsPrepared s (prepared.Look look) → changes ≡ look_changes s.book look.user look.group look.order look.base look.view → Enters s.book (Next.entry (look_entry look)) changes
  enters_look look changes ready made =
      subst (λ (cs : List Change). Enters s.book (Next.entry (look_entry look)) cs) (sym made) (record {
        are = look_are s.book look.user look.group look.order look.base look.view (fits ready.below) ready.lawful;
        leads = look_next s.book look.user look.group look.order look.base look.view (fits ready.below) ready.lawful ready.effect.1;
      })

  pub enters_retirement : (changes : List Change) (group user : List ℕ) (records : List Placed) → size s.book < s.limit → IsReplay s.book s.rows → AreRecords s.book records → bound group s.book ≡ Some user → changes ≡ retire_changes s.book group user records
      → Enters s.book (Next.entry (Retire group)) changes
  enters_retirement changes group user records below replay kept owned made =
      subst (λ (cs : List Change). Enters s.book (Next.entry (Retire group)) cs) (sym made) (record {
        are = retire_are s.book group user records (fits below) kept owned s.rows replay;
        leads = retire_next s.book group user records (fits below) kept owned;
      })
