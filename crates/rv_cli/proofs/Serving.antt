-- From the accounts, the desk of a store, a net that it served and the keeper that went back, to what `serve` promises.
use Rattle.std.proofs.Common.{◌≡◌, ◌≢◌, ◌⊎◌, ⊎_elim, ℕ, List, [], ◌∷◌, length, Contains, Result, Ok, Err, refl, lit<, sym, ap, ◌∙◌, subst, arith, inl, inr}
use Rattle.rv_base.specs.Causes.{Rose}
use Rattle.rv_base.specs.Outside.{OutputState}
use Rattle.rv_accounts.specs.File.{AccountsServed}
use Rattle.rv_keeper.specs.declared.keeper.Keeper.{Ghosts}
use Rattle.rv_keeper.specs.declared.loaded.Loaded.{Loaded}
use Rattle.rv_keeper.specs.declared.place.Place.{Ghosts as PlaceGhosts}
use Rattle.rv_keeper.specs.Stores.{OpensAs}
use Rattle.rv_doubt.specs.Kept.{KeepsBook}
use Rattle.rv_desk.specs.DeskStates.{IsSoundDesk, DeskState, served}
use Rattle.rv_cli.specs.ServePromise.{serve_statuses}
use Rattle.rv_book.specs.Book.{Book, size}
use Rattle.rv_base.specs.declared.memory.Memory.{Memory as MemoryFault}
use Rattle.rv_base.specs.declared.fault.Fault.{Fault}
use Rattle.rv_base.specs.declared.fault.Fault.TheVariants as outside
use Rattle.rv_room.specs.declared.view.SeatView.{SeatView}
use Rattle.rv_room.specs.Views.{newcomer}
use Rattle.rv_workers.specs.Serving.{EachServes, ServesBothKinds}
use Rattle.std.specs.Prelude.{MatchResult, IfErr}
use Rattle.rv_cli.specs.declared.ending.Ending.{Ending}
use Rattle.rv_cli.specs.declared.serve_ending.ServeEnding.{ServeEnding}
use Rattle.rv_cli.specs.declared.serve_ending.ServeEnding.TheVariants.{Done, BadAccounts, TwiceAccounts, NotOpened, Net, Memory, Write}
use Rattle.rv_cli.specs.Texts.{serve_status, serve_text, status_of}
use Rattle.rv_cli.specs.Change.{StoreChange, change}
use Rattle.rv_cli.specs.Headline.{Begins, IsLeftAs, IsNotOpened, Leaves, WritesOnly, KeptSound}
use Rattle.rv_cli.specs.Serving.{FileSays, HasNoAccounts, HasNoNet, HasNoStore, HasServed, IsNoNet, RunsServe, WritesEntries}
use Rattle.rv_cli.specs.ServingSteps.{AccountsRead, NetResult, WritesCount, WritesServed, count_text}
use Rattle.rv_cli.specs.Storing.{HasOpened}
use Rattle.rv_cli.proofs.Sound.{refused_sound}
use Rattle.rv_cli.proofs.Storing.{WentBack, begins, leaves}
use Rattle.rv_cli.specs.declared.ending.Ending.TheVariants as endings

-- what is opened as one thing is opened as another that it implies
opens_as : (name : List ℕ) (Stored Also : Loaded → Type 0) → ((held : Loaded) → Stored held → Also held) → (held : Loaded) → OpensAs name Stored held → OpensAs name Also held
opens_as name Stored Also also held (inl memory) = inl memory
opens_as name Stored Also also held (inr (other, was)) = inr (other, also held was)

-- a store that did not open, said of what it held before
not_opened_before : (c d : StoreChange) (ending : Ending) → (d.told → c.told) → (d.told → (held : Loaded) → d.opens held → c.opens held) → (d.told → (held : Loaded) → c.holds held → d.holds held)
    → c.before ≡ d.before → d.after ≡ c.after → IsNotOpened c ending → IsNotOpened d ending
not_opened_before c d endings.Keeper told also holds same after rose = omega (arith, rose, same, after)
not_opened_before c d (endings.Damaged damage) told also holds same after (loaded, stored, damaged, left, still) =
    (loaded, λ t held was. stored (told t) held (also t held was), damaged, λ t held was. holds t held (left (told t) held (also t held was)), after ∙ still ∙ same)
not_opened_before c d endings.Memory told also holds same after free = tt
not_opened_before c d endings.Done told also holds same after never = never
not_opened_before c d endings.Read told also holds same after never = never
not_opened_before c d endings.Write told also holds same after never = never
not_opened_before c d (endings.Malformed number) told also holds same after never = never

-- the count that is told is that of the book
pub entries_written : (book : Book) (entries : ℕ) (old new : OutputState) (ending : ServeEnding) → entries ≡ size book → WritesCount (count_text entries) old new ending → WritesEntries book old new ending
entries_written book entries old new Done is (appended, still) = (rw (← is) appended, still)
entries_written book entries old new Write is (front, rose) = (rw (← is) front, rose)
entries_written book entries old new (BadAccounts number) is never = never
entries_written book entries old new (TwiceAccounts number) is never = never
entries_written book entries old new (NotOpened ending) is never = never
entries_written book entries old new Net is never = never
entries_written book entries old new Memory is never = never

module _ {P K N : Type 0} (place : PlaceGhosts P K) (G : Ghosts K) (faults : N → ℕ) (store name : List ℕ) where
  abbrev Read : P → Result AccountsServed ServeEnding → P → Type 0
  Read old result mid = AccountsRead place name old result mid

  -- the file was read before the place told what it tells later
  says_later : (old mid new : P) (said : Result AccountsServed _) → (place.tells new → place.tells mid) → FileSays place name old mid said → FileSays place name old new said
  says_later old mid new said before says = record { bytes = says.bytes; read = λ t. says.read (before t); there = λ knows t. says.there knows (before t); says = says.says }

  -- the store did not open
  pub has_no_store : (old mid new : P) (said : AccountsServed) (other : Ending) (net : N) (out out' : OutputState) → Read old (Ok said) mid → (place.tells new → place.tells mid)
      → IsNotOpened (change place store mid new) other × IsLeftAs (change place store mid new)
      → WritesOnly out out' (serve_text (NotOpened other))
      → HasNoStore place G faults store name old new net net out out' (NotOpened other)
  has_no_store old mid new said other net out out' read before (why, left) text = record {
    other = other;
    is = refl;
    accounts = said;
    says = says_later old mid new (Ok said) before read.gives_accounts.0;
    why = not_opened_before (change place store mid new) (change place store old new) other (λ t. t) (λ t. opens_as store (place.holds old store) (place.holds mid store) ((read.stays (before t)).held store)) (λ t held was. was) read.gives_accounts.1 refl why;
    left = record {
      held = λ t. ⊎_elim (λ same. inl (λ held was. same held ((read.stays (before t)).held store held was)))
          (λ same. inr (λ held was. same held (opens_as store (place.holds old store) (place.holds mid store) ((read.stays (before t)).held store) held was))) (left.held t);
      left = λ t x may. ⊎_elim (λ might. inl ((read.stays (before t)).left store x might))
          (λ opens. inr (λ held was. opens held (opens_as store (place.holds old store) (place.holds mid store) ((read.stays (before t)).held store) held was))) (left.left t x may);
    };
    net_stays = refl;
    text = text;
  }

  -- the store was opened, its desk came from the first to the last, and its keeper went back
  module _ (old mid opened new : P) (said : AccountsServed) (first last : DeskState K) (keeper : K) (read : Read old (Ok said) mid)
      (opens : HasOpened place G store mid first opened) (before : place.tells opened → G.tells first.keeper → place.tells mid) (is : keeper ≡ last.keeper)
      (kept : KeepsBook G last.keeper last.book last.doubt) (sound : IsSoundDesk last) (kept_before : G.tells last.keeper → G.tells first.keeper)
      (back : WentBack place G store opened new keeper) where
    home : WentBack place G store opened new last.keeper
    home = subst (λ (k : K). WentBack place G store opened new k) is back

    told : place.tells new → place.tells mid
    told t = before (home.told t).0 (kept_before (home.told t).1)

    pub serve_begins : Begins (change place store old new) (served G.faults first)
    serve_begins =
        let from = begins place G store mid opened new first last.keeper opens kept_before home in
        record {
          loaded = from.loaded;
          stored = λ t held was. from.stored t held (opens_as store (place.holds old store) (place.holds mid store) ((read.stays (told t)).held store) held was);
          opens = from.opens;
          limit = from.limit;
          doubt = from.doubt;
          faults = from.faults;
        }

    pub serve_leaves : Leaves (change place store old new) (served G.faults last)
    serve_leaves = leaves place G store old opened new (served G.faults last) last.keeper
        (opens.same ∙ read.gives_accounts.1) (record { kept = record { held = kept.held; left = kept.left }; sound = record { book = sound.book; small = sound.small; fits = sound.fits; next = sound.next }; later = omega arith }) home

    pub serve_says : FileSays place name old new (Ok said)
    serve_says = says_later old mid new (Ok said) told read.gives_accounts.0

    pub has_served : (Serves : AccountsServed → DeskState K → DeskState K → Type 0) (net net' : N) (entries : ℕ) (out out' : OutputState) (ending : ServeEnding) → Serves said first last
        → entries ≡ size last.book → WritesCount (count_text entries) out out' ending
        → HasServed place G faults store name old new net net' Serves out out' ending
    has_served Serves net net' entries out out' ending serves count text = record {
      accounts = said;
      says = serve_says;
      first = first;
      now = last;
      begins = serve_begins;
      serves = serves;
      sound = record { lawful = sound.book.lawful; within = sound.book.within; next = sound.next };
      told = λ t. (home.told t).1;
      leaves = serve_leaves;
      entries = entries_written last.book entries out out' ending count text;
    }

    pub has_no_net : (net net' : N) (out out' : OutputState) (ending : ServeEnding) → last ≡ first → IsNoNet (faults net) (faults net') ending → WritesOnly out out' (serve_text ending)
        → HasNoNet place G faults store name old new net net' out out' ending
    has_no_net net net' out out' ending same why text = record {
      accounts = said;
      says = serve_says;
      first = served G.faults first;
      begins = serve_begins;
      why = why;
      leaves = subst (λ (desk : DeskState K). Leaves (change place store old new) (served G.faults desk)) same serve_leaves;
      text = text;
    }

-- as many listeners come back as were given
each_back : {V L : Type 0} (Serves : V → L → V → L → Type 0) (first : V) (givens : List L) (lasts : List V) (backs : List L) → EachServes Serves first givens lasts backs → length backs ≡ length givens
each_back Serves first [] [] [] each = refl
each_back Serves first (given ∷ givens) (last ∷ lasts) (back ∷ backs) (one, each) = let more = each_back Serves first givens lasts backs each in omega (arith, more)
each_back Serves first [] [] (back ∷ backs) never = absurd never
each_back Serves first [] (last ∷ lasts) backs never = absurd never
each_back Serves first (given ∷ givens) [] backs never = absurd never
each_back Serves first (given ∷ givens) (last ∷ lasts) [] never = absurd never

-- what comes of serving listeners
abbrev pub Comes : {K L P : Type 0} (G : Ghosts K) (Serves : SeatView K → L → SeatView K → L → Type 0) (Pokes : SeatView K → P → SeatView K → P → Type 0) (opened desk : DeskState K) (givens : List L) (poked : List P) (backs : List L) (poked_back : List P) → Result (Unit {0}) MemoryFault → Type 0
Comes G Serves Pokes opened desk givens poked backs poked_back result =
    MatchResult result (λ done. ServesBothKinds G Serves Pokes opened givens poked desk backs poked_back) (λ refused. (desk ≡ opened) × (backs ≡ givens) × (poked_back ≡ poked))

pub all_back : {K L P : Type 0} (G : Ghosts K) (Serves : SeatView K → L → SeatView K → L → Type 0) (Pokes : SeatView K → P → SeatView K → P → Type 0) (opened desk : DeskState K) (givens : List L) (poked : List P) (backs : List L) (poked_back : List P) (result : Result (Unit {0}) MemoryFault)
    → Comes G Serves Pokes opened desk givens poked backs poked_back result → (length backs ≡ length givens) × (length poked_back ≡ length poked)
all_back G Serves Pokes opened desk givens poked backs poked_back (Ok done) together =
    (each_back Serves (newcomer 1 opened) givens together.conns.views backs together.conns.serves, each_back Pokes (newcomer 1 opened) poked together.lookers poked_back together.pokes)
all_back G Serves Pokes opened desk givens poked backs poked_back (Err refused) (same, is, are) = (ap length is, ap length are)

-- where the desk's keeper tells at the end, it told at the beginning
pub net_before : {K : Type 0} (Is : Type 0) (kept_tells : K → Type 0) (before after : ℕ) (old new : DeskState K) (result : Result (Unit {0}) Fault)
    → NetResult Is kept_tells before after old new result → kept_tells new.keeper → kept_tells old.keeper
net_before Is kept_tells before after old new (Ok done) (serves, told, same) = told
net_before Is kept_tells before after old new (Err outside.Failed) (same, rose) = λ t. subst (λ (desk : DeskState _). kept_tells desk.keeper) same t
net_before Is kept_tells before after old new (Err outside.Memory) same = λ t. subst (λ (desk : DeskState _). kept_tells desk.keeper) same t

module _ {P K N : Type 0} (place : PlaceGhosts P K) (G : Ghosts K) (faults : N → ℕ) (store name : List ℕ) where
  -- the store was opened, the net was served or not, and what is told of it
  pub serve_ended : (old mid opened new : P) (said : AccountsServed) (first last : DeskState K) (keeper : K) → AccountsRead place name old (Ok said) mid
      → HasOpened place G store mid first opened → (place.tells opened → G.tells first.keeper → place.tells mid) → keeper ≡ last.keeper
      → KeepsBook G last.keeper last.book last.doubt → IsSoundDesk last
      → WentBack place G store opened new keeper
      → (Serves : AccountsServed → DeskState K → DeskState K → Type 0) (net net' : N) (result : Result (Unit {0}) Fault) (entries : ℕ) (out out' : OutputState) (ending : ServeEnding)
      → NetResult (Serves said first last) G.tells (faults net) (faults net') first last result
      → entries ≡ size last.book → WritesServed result entries out out' ending
      → HasNoNet place G faults store name old new net net' out out' ending
      ⊎ HasServed place G faults store name old new net net' Serves out out' ending
  serve_ended old mid opened new said first last keeper read opens before is held sound home Serves net net' result entries out out' ending net_served count told =
      by_result result net_served told
    where
      kept : G.tells last.keeper → G.tells first.keeper
      kept = net_before (Serves said first last) G.tells (faults net) (faults net') first last result net_served

      no_net : (other : ServeEnding) → last ≡ first → IsNoNet (faults net) (faults net') other → WritesOnly out out' (serve_text other)
          → HasNoNet place G faults store name old new net net' out out' other
      no_net other same why text = has_no_net place G faults store name old mid opened new said first last keeper read opens before is held sound kept home net net' out out' other same why text

      by_result : (r : Result (Unit {0}) Fault) → NetResult (Serves said first last) G.tells (faults net) (faults net') first last r
          → WritesServed r entries out out' ending
          → HasNoNet place G faults store name old new net net' out out' ending
          ⊎ HasServed place G faults store name old new net net' Serves out out' ending
      by_result (Ok done) (serves, on, same) gives_accounts = inr (has_served place G faults store name old mid opened new said first last keeper read opens before is held sound kept home
          Serves net net' entries out out' ending serves count gives_accounts)
      by_result (Err outside.Failed) (same, rose) (ends, text) = inl (subst (λ (e : ServeEnding). HasNoNet place G faults store name old new net net' out out' e) (sym ends) (no_net Net same rose text))
      by_result (Err outside.Memory) same (ends, text) = inl (subst (λ (e : ServeEnding). HasNoNet place G faults store name old new net net' out out' e) (sym ends) (no_net Memory same tt text))

-- at other statuses than 0 and 7 the net did not serve
pub unserved_by : (Unserves : Type 0) (result : Result (Unit {0}) Fault) (entries : ℕ) (out out' : OutputState) (ending : ServeEnding) (status : ℕ)
    → WritesServed result entries out out' ending → status ≡ serve_status ending → IfErr result (λ fault. Unserves) → (status ≡ 0) ⊎ (status ≡ 7) ⊎ Unserves
unserved_by Unserves (Err fault) entries out out' ending status tells is why = inr (inr why)
unserved_by Unserves (Ok done) entries out out' Done status tells is why = inl is
unserved_by Unserves (Ok done) entries out out' Write status tells is why = inr (inl is)
unserved_by Unserves (Ok done) entries out out' (BadAccounts number) status tells is why = absurd tells
unserved_by Unserves (Ok done) entries out out' (TwiceAccounts number) status tells is why = absurd tells
unserved_by Unserves (Ok done) entries out out' (NotOpened other) status tells is why = absurd tells
unserved_by Unserves (Ok done) entries out out' Net status tells is why = absurd tells
unserved_by Unserves (Ok done) entries out out' Memory status tells is why = absurd tells

-- ---- A store that keeps a lawful book is not damaged.

accounts_undamaged : {P K : Type 0} (place : PlaceGhosts P K) (name : List ℕ) (old new : P) (ending : ServeEnding) → HasNoAccounts place name old new ending → serve_status ending ≢ 5
accounts_undamaged place name old new (BadAccounts number) why is = omega (arith, is)
accounts_undamaged place name old new (TwiceAccounts number) why is = omega (arith, is)
accounts_undamaged place name old new (NotOpened endings.Keeper) why is = omega (arith, is)
accounts_undamaged place name old new (NotOpened endings.Memory) why is = omega (arith, is)
accounts_undamaged place name old new (NotOpened endings.Done) never is = never
accounts_undamaged place name old new (NotOpened (endings.Damaged damage)) never is = never
accounts_undamaged place name old new (NotOpened endings.Read) never is = never
accounts_undamaged place name old new (NotOpened endings.Write) never is = never
accounts_undamaged place name old new (NotOpened (endings.Malformed number)) never is = never
accounts_undamaged place name old new Done never is = never
accounts_undamaged place name old new Net never is = never
accounts_undamaged place name old new Memory never is = never
accounts_undamaged place name old new Write never is = never

net_undamaged : (before after : ℕ) (ending : ServeEnding) → IsNoNet before after ending → serve_status ending ≢ 5
net_undamaged before after Net why is = omega (arith, is)
net_undamaged before after Memory why is = omega (arith, is)
net_undamaged before after Done never is = never
net_undamaged before after (BadAccounts number) never is = never
net_undamaged before after (TwiceAccounts number) never is = never
net_undamaged before after (NotOpened ending) never is = never
net_undamaged before after Write never is = never

served_undamaged : (book : Book) (old new : OutputState) (ending : ServeEnding) → WritesEntries book old new ending → serve_status ending ≢ 5
served_undamaged book old new Done told is = omega (arith, is)
served_undamaged book old new Write told is = omega (arith, is)
served_undamaged book old new (BadAccounts number) never is = never
served_undamaged book old new (TwiceAccounts number) never is = never
served_undamaged book old new (NotOpened ending) never is = never
served_undamaged book old new Net never is = never
served_undamaged book old new Memory never is = never

pub serve_sound : {P K N : Type 0} (place : PlaceGhosts P K) (G : Ghosts K) (faults : N → ℕ) (store name : List ℕ) (old new : P) (net net' : N) (Serves : AccountsServed → DeskState K → DeskState K → Type 0) (out out' : OutputState) (status : ℕ)
    → place.tells new → KeptSound (OpensAs store (place.holds old store)) → RunsServe place G faults store name old new net net' Serves out out' status → status ≢ 5
serve_sound place G faults store name old new net net' Serves out out' status told kept (ending, is, inl refused) five =
    accounts_undamaged place name old new ending refused.why (sym is ∙ five)
serve_sound place G faults store name old new net net' Serves out out' status told kept (ending, is, inr (inl none)) five =
    refused_sound (change place store old new) told kept none.other status none.why (is ∙ ap serve_status none.is) five
serve_sound place G faults store name old new net net' Serves out out' status told kept (ending, is, inr (inr (inl none))) five =
    net_undamaged (faults net) (faults net') ending none.why (sym is ∙ five)
serve_sound place G faults store name old new net net' Serves out out' status told kept (ending, is, inr (inr (inr served))) five =
    served_undamaged served.now.book out out' ending served.entries (sym is ∙ five)

-- ---- What a run of `serve` tells by its status.

pub record ServeFacts (before after net net' : ℕ) (out out' : OutputState) (status : ℕ) : Type 0 where
  pub keeper : status ≡ 4 → Rose before after
  pub net_rose : status ≡ 9 → Rose net net'
  pub write : status ≡ 7 → Rose out.faults out'.faults
  pub write_told : (status ≡ 7) ⊎ (out'.faults ≡ out.faults) ⊎ ((status ≢ 0) × Rose out.faults out'.faults)
  pub complete : Contains serve_statuses status

only_written : (out out' : OutputState) (text : List ℕ) (status : ℕ) → WritesOnly out out' text → status ≢ 0
    → (status ≡ 7) ⊎ (out'.faults ≡ out.faults) ⊎ ((status ≢ 0) × Rose out.faults out'.faults)
only_written out out' text status (own, appended, inl (same, still)) some = inr (inl still)
only_written out out' text status (own, appended, inr (front, rose)) some = inr (inr (some, rose))

module _ {P K N : Type 0} (place : PlaceGhosts P K) (faults : N → ℕ) (store name : List ℕ) (old new : P) (net net' : N) (out out' : OutputState) (status : ℕ) where
  abbrev Facts : Type 0
  Facts = ServeFacts (place.faults old) (place.faults new) (faults net) (faults net') out out' status

  -- a status that tells neither a trouble of the place, nor of the net, nor of the output
  plain_facts : (k : ℕ) → status ≡ k → k ≢ 4 → k ≢ 7 → k ≢ 9 → Contains serve_statuses status
      → (status ≡ 7) ⊎ (out'.faults ≡ out.faults) ⊎ ((status ≢ 0) × Rose out.faults out'.faults) → Facts
  plain_facts k is four seven nine among told = record {
    keeper = λ e. absurd (four (sym is ∙ e));
    net_rose = λ e. absurd (nine (sym is ∙ e));
    write = λ e. absurd (seven (sym is ∙ e));
    write_told = told;
    complete = among;
  }

  keeper_facts : status ≡ 4 → Rose (place.faults old) (place.faults new) → (text : List ℕ) → WritesOnly out out' text → Facts
  keeper_facts is rose text only = record {
    keeper = λ e. rose;
    net_rose = λ e. absurd (omega (arith, is, e));
    write = λ e. absurd (omega (arith, is, e));
    write_told = only_written out out' text status only (λ e. omega (arith, is, e));
    complete = (2, lit< tt, sym is);
  }

  net_facts : status ≡ 9 → Rose (faults net) (faults net') → (text : List ℕ) → WritesOnly out out' text → Facts
  net_facts is rose text only = record {
    keeper = λ e. absurd (omega (arith, is, e));
    net_rose = λ e. rose;
    write = λ e. absurd (omega (arith, is, e));
    write_told = only_written out out' text status only (λ e. omega (arith, is, e));
    complete = (6, lit< tt, sym is);
  }

  write_facts : status ≡ 7 → Rose out.faults out'.faults → Facts
  write_facts is rose = record {
    keeper = λ e. absurd (omega (arith, is, e));
    net_rose = λ e. absurd (omega (arith, is, e));
    write = λ e. rose;
    write_told = inl is;
    complete = (4, lit< tt, sym is);
  }

  accounts_facts : status ≡ 3 → (text : List ℕ) → WritesOnly out out' text → Facts
  accounts_facts is text only = plain_facts 3 is (λ e. omega (arith, e)) (λ e. omega (arith, e)) (λ e. omega (arith, e)) (1, lit< tt, sym is) (only_written out out' text status only (λ e. omega (arith, is, e)))

  damage_facts : status ≡ 5 → (text : List ℕ) → WritesOnly out out' text → Facts
  damage_facts is text only = plain_facts 5 is (λ e. omega (arith, e)) (λ e. omega (arith, e)) (λ e. omega (arith, e)) (3, lit< tt, sym is) (only_written out out' text status only (λ e. omega (arith, is, e)))

  memory_facts : status ≡ 8 → (text : List ℕ) → WritesOnly out out' text → Facts
  memory_facts is text only = plain_facts 8 is (λ e. omega (arith, e)) (λ e. omega (arith, e)) (λ e. omega (arith, e)) (5, lit< tt, sym is) (only_written out out' text status only (λ e. omega (arith, is, e)))

  done_facts : status ≡ 0 → out'.faults ≡ out.faults → Facts
  done_facts is still = plain_facts 0 is (λ e. omega (arith, e)) (λ e. omega (arith, e)) (λ e. omega (arith, e)) (0, lit< tt, sym is) (inr (inl still))

  refused_facts : (ending : ServeEnding) → status ≡ serve_status ending → HasNoAccounts place name old new ending → WritesOnly out out' (serve_text ending) → Facts
  refused_facts (BadAccounts number) is why only = accounts_facts is (serve_text (BadAccounts number)) only
  refused_facts (TwiceAccounts number) is why only = accounts_facts is (serve_text (TwiceAccounts number)) only
  refused_facts (NotOpened endings.Keeper) is why only = keeper_facts is why (serve_text (NotOpened endings.Keeper)) only
  refused_facts (NotOpened endings.Memory) is why only = memory_facts is (serve_text (NotOpened endings.Memory)) only
  refused_facts (NotOpened endings.Done) is never only = absurd never
  refused_facts (NotOpened (endings.Damaged damage)) is never only = absurd never
  refused_facts (NotOpened endings.Read) is never only = absurd never
  refused_facts (NotOpened endings.Write) is never only = absurd never
  refused_facts (NotOpened (endings.Malformed number)) is never only = absurd never
  refused_facts Done is never only = absurd never
  refused_facts Net is never only = absurd never
  refused_facts Memory is never only = absurd never
  refused_facts Write is never only = absurd never

  store_facts : (other : Ending) → status ≡ status_of other → IsNotOpened (change place store old new) other → (text : List ℕ) → WritesOnly out out' text → Facts
  store_facts endings.Keeper is why text only = keeper_facts is why text only
  store_facts (endings.Damaged damage) is why text only = damage_facts is text only
  store_facts endings.Memory is why text only = memory_facts is text only
  store_facts endings.Done is never text only = absurd never
  store_facts endings.Read is never text only = absurd never
  store_facts endings.Write is never text only = absurd never
  store_facts (endings.Malformed number) is never text only = absurd never

  no_net_facts : (ending : ServeEnding) → status ≡ serve_status ending → IsNoNet (faults net) (faults net') ending → WritesOnly out out' (serve_text ending) → Facts
  no_net_facts Net is why only = net_facts is why (serve_text Net) only
  no_net_facts Memory is why only = memory_facts is (serve_text Memory) only
  no_net_facts Done is never only = absurd never
  no_net_facts (BadAccounts number) is never only = absurd never
  no_net_facts (TwiceAccounts number) is never only = absurd never
  no_net_facts (NotOpened ending) is never only = absurd never
  no_net_facts Write is never only = absurd never

  served_facts : (book : Book) (ending : ServeEnding) → status ≡ serve_status ending → WritesEntries book out out' ending → Facts
  served_facts book Done is (appended, still) = done_facts is still
  served_facts book Write is (front, rose) = write_facts is rose
  served_facts book (BadAccounts number) is never = absurd never
  served_facts book (TwiceAccounts number) is never = absurd never
  served_facts book (NotOpened ending) is never = absurd never
  served_facts book Net is never = absurd never
  served_facts book Memory is never = absurd never

  pub serve_facts : (G : Ghosts K) (Serves : AccountsServed → DeskState K → DeskState K → Type 0) → RunsServe place G faults store name old new net net' Serves out out' status → Facts
  serve_facts G Serves (ending, is, inl refused) = refused_facts ending is refused.why refused.text
  serve_facts G Serves (ending, is, inr (inl none)) = store_facts none.other (is ∙ ap serve_status none.is) none.why (serve_text ending) none.text
  serve_facts G Serves (ending, is, inr (inr (inl none))) = no_net_facts ending is none.why none.text
  serve_facts G Serves (ending, is, inr (inr (inr served))) = served_facts served.now.book ending is served.entries
