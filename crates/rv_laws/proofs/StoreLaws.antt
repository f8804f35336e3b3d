-- Runs over one store, one after the other.
use Rattle.std.proofs.Common.{◌≡◌, ◌-◌, ◌^◌, inr, sym, subst, arith}
use Rattle.rv_keeper.specs.declared.loaded.Loaded.{Loaded}
use Rattle.rv_keeper.specs.declared.place.Place.{Ghosts as PlaceGhosts}
use Rattle.rv_store.specs.StoreBookLaws.{settled_unique, sound-told}
use Rattle.rv_store.specs.StoreCells.{IsKeptAs}
use Rattle.rv_laws.specs.Stores.{RunsGoOn}

pub runs_go_on : {P K : Type 0} (place : PlaceGhosts P K) → RunsGoOn place
runs_go_on place old mid new store now first other told tells left begins =
    let (held, was, with) = left.held told in
    let is : held ≡ begins.loaded = begins.stored tells held (inr (other, was)) in
    let kept : IsKeptAs first.book held = subst (λ (l : Loaded). IsKeptAs first.book l) (sym is) begins.opens.kept in
    let own = sound-told (2 ^ 32 - 1) first.book (omega arith) begins.opens.sound in
    settled_unique now.limit now.book first.book now.doubt held left.sound.small left.sound.book left.sound.fits left.sound.next own kept with
