-- What a check of a store answers.
use Rattle.std.specs.Prelude.{◌≡◌, ◌^◌, ◌-◌, ℕ, None}
use Rattle.rv_base.specs.Causes.{Rose}
use Rattle.rv_keeper.specs.declared.keeper.Keeper.{Ghosts}
use Rattle.rv_keeper.specs.declared.loaded.Loaded.{Loaded}
use Rattle.rv_book.specs.Book.{Book, size}
use Rattle.rv_store.specs.Opening.{MayOpen}
use Rattle.rv_desk.specs.Opened.{WasLoaded, IsDamagedIn, IsLeft}
use Rattle.rv_doubt.specs.Kept.{LeavesBook}
use Rattle.rv_report.specs.declared.check_answer.CheckAnswer.{CheckAnswer}
use Rattle.rv_report.specs.declared.check_answer.CheckAnswer.TheVariants.{Sound, Damaged, Keeper, Memory}

module _ {K : Type 0} (G : Ghosts K) where
  -- What was loaded is what a lawful book of so many entries is kept as, and a crash leaves that book; the keeper's count of faults stays.
  pub record IsSoundIn (entries : ℕ) (before now : K) : Type 0 where
    pub loaded : Loaded
    pub book : Book
    pub was : WasLoaded (G.tells now) (G.holds before) loaded
    pub opens : MayOpen (2 ^ 32 - 1) book loaded
    pub held : G.tells now → G.holds now loaded
    pub left : G.honest now → LeavesBook (G.may_leave now) book None
    pub length : size book ≡ entries
    pub still : G.faults now ≡ G.faults before
    pub goes_on : G.fails_no_more before → G.fails_no_more now

  -- as opening answers with the greatest limit
  abbrev pub AnswersCheck : CheckAnswer → K → K → Type 0
  AnswersCheck (Sound entries) before now = IsSoundIn entries before now
  AnswersCheck (Damaged damage) before now = IsDamagedIn G (2 ^ 32 - 1) before now damage
  AnswersCheck Keeper before now = Rose (G.faults before) (G.faults now) × ¬ G.fails_no_more before
  AnswersCheck Memory before now = G.faults now ≡ G.faults before

  -- and the keeper holds what it held
  abbrev pub Checks : K → CheckAnswer × K → Type 0
  Checks before checked = AnswersCheck checked.0 before checked.1 × IsLeft G before checked.1
