use Rattle.std.proofs.Common.{◌≡◌, ℕ, zero, suc, ◌<◌, List, [], ◌∷◌, ◌++◌, length, get_or, take, drop, refl, arith, append_assoc}
use Rattle.std.specs.List.{flat_map}
use Rattle.rv_base.specs.WritesLaws.{writes_then, writes_cut}
use Rattle.rv_cli.specs.Texts.{shown_byte}
use Rattle.rv_cli.proofs.texts.write_key.Goals as goal

-- the text of items: of those before one, of that one and of those after it
parted : (f : ℕ → List ℕ) (xs : List ℕ) (i : ℕ) → i < length xs → flat_map f xs ≡ (flat_map f (take i xs) ++ f (get_or xs i 0)) ++ flat_map f (drop (suc i) xs)
parted f [] i lt = absurd (omega arith)
parted f (x ∷ xs) zero lt = refl
parted f (x ∷ xs) (suc i) lt = rw (parted f xs i (omega arith)) (simp append_assoc)

pub returns-in-Err-clause-writes : goal.returns-in-Err-clause-writes
returns-in-Err-clause-writes g c =
    let i = c.loop-byte.byte-index in
    let key = c.args.key.now in
    let written = writes_then _ _ _ _ _ _ _ c.loop-byte.invariant.written c.in-Err.ensures.writes in
    rw (parted shown_byte key i c.loop-byte-test.true) (writes_cut _ _ _ _ (flat_map shown_byte (drop (suc i) key)) written)
