-- A body is read, and then it is answered.
use Rattle.std.proofs.Common.{◌≡◌, ℕ, Bool, false, ◌||◌, List, [], ◌∷◌, map, String, string_bytes, Result, Ok, Err, refl, sym, ap, subst, inl, inr}
use Rattle.std.proofs.Math.Path.{fun_ext}
use Rattle.std.specs.declared.alloc.Global.{Global}
use Rattle.std.specs.Str.{bytes_eq}
use Rattle.rv_wire.specs.declared.fault.WireFault.{WireFault}
use Rattle.rv_wire.specs.Bodies.{Fails, is_schema_served}
use Rattle.rv_wire.specs.Errors.{fault_error}
use Rattle.rv_answering.specs.declared.request.Request.TheVariants.{Push, Pull}
use Rattle.rv_answering.specs.declared.answer.Answer.{Answer}
use Rattle.rv_answering.specs.declared.answer.Answer.TheVariants.{Refused}
use Rattle.rv_answering.specs.Requests.{push_asked, pull_asked}
use Rattle.rv_answering.specs.Steps.{Answers, HandlesActing}
use Rattle.rv_serve.specs.Replies.{serves}
use Rattle.rv_turns.specs.Asks.{Ask}
use Rattle.rv_turns.specs.declared.pushing.Outcome.{Outcome}
use Rattle.rv_turns.specs.declared.pull.PullRequest.{PullRequest}
use Rattle.rv_wire.specs.declared.fault.WireFault.TheVariants as faults
use Rattle.rv_wire.specs.declared.push.Push as pushes

served_among : (schemas : List (String Global)) (schema : List ℕ) → is_schema_served schemas schema ≡ serves (map string_bytes schemas) schema
served_among [] schema = refl
served_among (served ∷ schemas) schema = ap (λ (b : Bool). bytes_eq (string_bytes served) schema || b) (served_among schemas schema)

-- the schema versions of the accounts file, as texts and as their bytes
pub same_serves : (schemas : List (String Global)) → is_schema_served schemas ≡ serves (map string_bytes schemas)
same_serves schemas = fun_ext (served_among schemas)

module _ {S : Type 0} (takes : S → Ask → Outcome → S → Type 0) where
  pub push_taken : (old new : S) (user : List ℕ) (push : pushes.Push) (read : Result pushes.Push WireFault) (answer : Answer) (acted : Bool) → read ≡ Ok push → Answers takes old (Push user push) answer acted new
      → HandlesActing takes old (push_asked user read) answer acted new
  push_taken old new user push read answer acted is told = subst (λ (r : Result pushes.Push WireFault). HandlesActing takes old (push_asked user r) answer acted new) (sym is) (inr told)

  pub pull_taken : (old new : S) (user : List ℕ) (pull : PullRequest) (read : Result PullRequest WireFault) (answer : Answer) (acted : Bool) → read ≡ Ok pull → Answers takes old (Pull user pull) answer acted new
      → HandlesActing takes old (pull_asked user read) answer acted new
  pull_taken old new user pull read answer acted is told = subst (λ (r : Result PullRequest WireFault). HandlesActing takes old (pull_asked user r) answer acted new) (sym is) (inr told)

  push_wants : (old : S) (user : List ℕ) (read : Result pushes.Push WireFault) → HandlesActing takes old (push_asked user read) (Refused (fault_error faults.Memory)) false old
  push_wants old user (Ok push) = inl (refl, refl, refl)
  push_wants old user (Err fault) = inl (refl, refl, refl)

  pull_wants : (old : S) (user : List ℕ) (read : Result PullRequest WireFault) → HandlesActing takes old (pull_asked user read) (Refused (fault_error faults.Memory)) false old
  pull_wants old user (Ok pull) = inl (refl, refl, refl)
  pull_wants old user (Err fault) = inl (refl, refl, refl)

  push_fault : (old : S) (user : List ℕ) (fault : WireFault) (read : Result pushes.Push WireFault) → read ≡ Err fault → HandlesActing takes old (push_asked user read) (Refused (fault_error fault)) false old
  push_fault old user fault read is = subst (λ (r : Result pushes.Push WireFault). HandlesActing takes old (push_asked user r) (Refused (fault_error fault)) false old) (sym is) (inr (refl, refl, refl))

  pull_fault : (old : S) (user : List ℕ) (fault : WireFault) (read : Result PullRequest WireFault) → read ≡ Err fault → HandlesActing takes old (pull_asked user read) (Refused (fault_error fault)) false old
  pull_fault old user fault read is = subst (λ (r : Result PullRequest WireFault). HandlesActing takes old (pull_asked user r) (Refused (fault_error fault)) false old) (sym is) (inr (refl, refl, refl))

  pub push_refused : (old : S) (user : List ℕ) (fault : WireFault) (read : Result pushes.Push WireFault) → Fails fault read → HandlesActing takes old (push_asked user read) (Refused (fault_error fault)) false old
  push_refused old user faults.NotJson read fails = push_fault old user faults.NotJson read fails
  push_refused old user (faults.Field field) read fails = push_fault old user (faults.Field field) read fails
  push_refused old user (faults.Version kind) read fails = push_fault old user (faults.Version kind) read fails
  push_refused old user faults.Memory read fails = push_wants old user read

  pub pull_refused : (old : S) (user : List ℕ) (fault : WireFault) (read : Result PullRequest WireFault) → Fails fault read → HandlesActing takes old (pull_asked user read) (Refused (fault_error fault)) false old
  pull_refused old user faults.NotJson read fails = pull_fault old user faults.NotJson read fails
  pull_refused old user (faults.Field field) read fails = pull_fault old user (faults.Field field) read fails
  pull_refused old user (faults.Version kind) read fails = pull_fault old user (faults.Version kind) read fails
  pull_refused old user faults.Memory read fails = pull_wants old user read
