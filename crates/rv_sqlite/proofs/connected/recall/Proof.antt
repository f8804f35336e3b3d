-- A `&` to a connection holds the fields of some connection of this value, and the invariant of these.
use mathlib.Core.Path.{refl, subst}
use mathlib.Core.List.{[], ◌∷◌}
use mir.Syntax.{a_type, dcons, dnil, named, Args}
use mir.MapTy.{inst_fn}
use mir.Val.{vunit}
use base.Fml.{ftrue}
use types.Kit.{‵, raw, ◌⊛◌, ◌$◌, ◌∵◌, !, qed, move, keep, split, fsplit, fpick, fjoin, feq_i, suffices, frame, done}
use types.Run.{enter, of_opd, unit_lit, returns}
use types.ByLocal.{alloc_all, pass_all, free_all, look_at, sets}
use denote.Builtin.{RefOf}
use denote.Exit.{yes}
use denote.Opens.{unhide}
use denote.Param.{bounded, param}
use denote.RattleType.{RattleType}
use denote.Ref.{ShrRef, shr_vals, shr_Tells}
use denote.Signature.{plain}
use denote.Steps.{nothing}
use denote.Triple.Clauses.{Ended}
use denote.Triple.Entry.{alive}
use denote.Triple.Walked.{Stays, stay_dropped, Goes-dropped, says, ends_at}
use Rattle.std.proofs.raw_atomic.Walks.{proved}
use Rattle.sqlite.specs.contracts.connection.Connection.{the_row as connection_of}
use Rattle.sqlite.specs.Held.{Held, IsConnected}
use Rattle.rv_sqlite.specs.contracts.connected.recall as f
use Rattle.rv_sqlite.specs.contracts.connected.recall.Key.{name as #self}
use Rattle.rv_sqlite.proofs.connected.recall.Statement.{statement}
use Rattle.rv_sqlite.proofs.connected.recall.Code as code

pub recall_spec : {M : Type 1} → statement M
recall_spec 𝓤 𝓛 𝓜 𝓡 wired S laws alter alter-dict store store-dict meets-alter meets-store =
    let T : Ended = f.ended S alter alter-dict store store-dict in
    let R : RattleType = connection_of (param 0 S) store in
    let args : Args = bounded (a_type ∷ []) (S, tt) (dcons alter-dict (dcons store-dict dnil)) in
    let stayed : Stays T.signature.params T.kept = (stay_dropped (RefOf (0 ∷ []) tt (plain (λ _. R)) (λ κs. tt)) yes, tt) in
    let c = f.clauses S alter alter-dict store store-dict 𝓛 𝓜.mem 𝓡.returns in
    proved 𝓛 T stayed c 𝓜 𝓡 (Goes-dropped 𝓛 2 (RefOf (0 ∷ []) tt (plain (λ _. R)) (λ κs. tt)) yes (λ κs x f. refl), tt)
    (#self args) (inst_fn args code.function) (code.unfolded 𝓤 𝓛.H 𝓜 𝓡 wired (S, tt) alter-dict store-dict)
    (λ κs. (shr_vals, tt)) (λ κs. (shr_Tells (named 0) κs.0 R, tt)) (λ κs qs bounds a g are.
    let x = a.0 in let vs = shr_vals x in
    qed 𝓛 ((raw (alive 𝓛 T.signature κs qs) ⊛ (‵ ((ShrRef (named 0) κs.0 R).own_val x vs) ⊛ ‵ ftrue)) ∷ raw ((c κs a).requires g) ∷ []) ∵
    split ! $ move ! (1 ∷ []) $ split ! $ fsplit ! $ move ! (1 ∷ []) $ unhide ! $ fpick ! (λ inside.
    -- [.., .., .., the tokens, ..]
    keep ! (3 ∷ []) $ enter ! _ _ _ vs _ $ alloc_all ! (λ l. pass_all ! refl ((tt, tt), tt) $
    sets ! (of_opd ! (unit_lit !)) refl (tt, tt) $ returns ! (look_at ! 0 refl) $ free_all ! refl $
    suffices ! _ (ends_at 𝓛 T stayed c ((κs, qs, bounds, a, (vs, tt)), g) vunit tt (tt, tt) (tt, tt)) $
    says ! (subst (λ (h : Held S.Denot). IsConnected (store.view h.store) (store.recovers h.store) h.schema h.saved h.in_transaction) inside.1.0 inside.1.1.0) $
    frame ! $ nothing ! $ nothing ! $ fjoin ! $ frame ! $ feq_i ! _ (vunit ∷ []) _ refl $ done !)))
