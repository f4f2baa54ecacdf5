-- What is passed on, and why a service is interrupted.
use Rattle.std.proofs.Common.{◌≡◌, ◌⊎◌, ℕ, inl, inr, refl, sym, ap, subst, ◌∙◌}
use Rattle.std.specs.Prelude.{Result, Ok, Err, IfErr}
use Rattle.pg_cluster.specs.Fault.{CantRun}
use Rattle.pg_cluster.specs.PgStep.Config.{Config}
use Rattle.pg_cluster.specs.PgWorldPackets.Openings.{CanBegin}
use Rattle.pg_cluster.specs.declared.fault.StartFault.TheVariants.{NoThread}
use Rattle.pg_talk.specs.declared.service.fault.ServiceFault.{ServiceFault}
use Rattle.pg_talk.specs.declared.service.fault.ServiceFault.TheVariants.{Start, BadText, WriteFault, OutOfMemory}
use Rattle.pg_talk.specs.declared.service.outlet.Outlet.{Outlet}
use Rattle.pg_talk.specs.Faults.{Interrupted, NotServed}
use Rattle.pg_talk.specs.Outlets.{StaysPassedOn}

-- nothing was written
pub passed_same : {W : Type 0} (flushed : W → Type 0) (a b : Outlet) (now : W) → b ≡ a → StaysPassedOn flushed a b now now
passed_same flushed a b now same first h e = h (ap (λ (outlet : Outlet). outlet.is_waiting) (sym same) ∙ e)

pub short_of_memory : {T : Type 0} (unwritten : Type 0) (r : Result T ServiceFault) → IfErr r (λ fault. fault ≡ OutOfMemory) → IfErr r (Interrupted unwritten)
short_of_memory unwritten (Ok t) h = tt
short_of_memory unwritten (Err fault) h = subst (Interrupted unwritten) (sym h) tt

-- one that is interrupted was not served to its end
interrupted : (ring : ℕ) (given : Config) (unchanged unwritten : Type 0) (fault : ServiceFault) → Interrupted unwritten fault → NotServed ring given unchanged unwritten fault
interrupted ring given unchanged unwritten (Start fault) h = absurd h
interrupted ring given unchanged unwritten BadText h = absurd h
interrupted ring given unchanged unwritten WriteFault h = h
interrupted ring given unchanged unwritten OutOfMemory h = tt

pub stopped : {T : Type 0} (ring : ℕ) (given : Config) (unchanged unwritten : Type 0) (r : Result T ServiceFault) → IfErr r (Interrupted unwritten) → IfErr r (NotServed ring given unchanged unwritten)
stopped ring given unchanged unwritten (Ok t) h = tt
stopped ring given unchanged unwritten (Err fault) h = interrupted ring given unchanged unwritten fault h

-- a thread may not be started, also where a cluster can begin
no_thread : (ring : ℕ) (given : Config) → ∥ CanBegin ring given ∥₁ → ∥ CantRun ring given NoThread ∥₁
no_thread ring given can = can

-- no thread that reads was started
pub unread : (ring : ℕ) (given : Config) (unchanged unwritten : Type 0) (fault : ServiceFault) → ∥ CanBegin ring given ∥₁ → (fault ≡ Start NoThread) ⊎ (fault ≡ OutOfMemory) → unchanged
    → NotServed ring given unchanged unwritten fault
unread ring given unchanged unwritten fault can (inl e) same = subst (NotServed ring given unchanged unwritten) (sym e) (no_thread ring given can, same)
unread ring given unchanged unwritten fault can (inr e) same = subst (NotServed ring given unchanged unwritten) (sym e) tt
