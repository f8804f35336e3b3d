-- A gate hears of a request, and then of its answer.
use Rattle.std.proofs.Common.{◌≡◌, ℕ, List, [], ◌∷◌, Option, subst}
use Rattle.rv_serve.specs.declared.heard.Heard.{Heard}
use Rattle.rv_serve.specs.declared.heard.Heard.TheVariants.{Before, After}
use Rattle.rv_serve.specs.Hearing.{Hears}
use Rattle.rv_serve.specs.HearingLaws.{hears_on}
use Rattle.rv_serve.specs.Texts.{http_status}
use Rattle.rv_serve.specs.Talk.{Exchange, heard_of}

pub hears_both : (first mid last : Option (List Heard)) (number status : ℕ) (x : Exchange) → status ≡ http_status x.answer → Hears first mid (Before number ∷ []) → Hears mid last (After status x.entered ∷ []) → Hears first last (heard_of number x)
hears_both first mid last number status x is before after =
    hears_on first mid last (Before number ∷ []) (After (http_status x.answer) x.entered ∷ []) before (subst (λ (s : ℕ). Hears mid last (After s x.entered ∷ [])) is after)
