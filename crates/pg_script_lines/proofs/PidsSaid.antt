-- Pids up to the end of a line.
use Rattle.std.proofs.Common.{◌≡◌, List, [], ◌∷◌, ◌++◌, ℕ, refl, sym, ap, ◌∙◌, append_assoc, append-nil}
use Rattle.std.specs.Prelude.{Option, Some, None}
use Rattle.std.specs.Str.{chars}
use Rattle.pg_term.specs.declared.pid.Pid.{Pid}
use Rattle.pg_text.specs.Reading.{pid_of}
use Rattle.pg_script_lines.specs.Forms.{Worded, said_as, then_said, with_rest, pids_in}

-- these pids, and then those that are said
abbrev pub with_front : List Pid → Worded (List Pid) → Worded (List Pid)
with_front front said = said_as (λ pids. front ++ pids) said

-- what all words say are these pids, and then what the rest of them say
abbrev pub Goes : List (List ℕ) → List Pid → List (List ℕ) → Type 0
Goes all front rest = pids_in all ≡ with_front front (pids_in rest)

no_front : (said : Worded (List Pid)) → said ≡ with_front [] said
no_front None = refl
no_front (Some x) = refl

pub goes_first : (all : List (List ℕ)) (front : List Pid) → front ≡ [] → Goes all front all
goes_first all front e = no_front (pids_in all) ∙ ap (λ f. with_front f (pids_in all)) (sym e)

joined : (front : List Pid) (pid : Pid) (said : Worded (List Pid)) → with_front front (said_as (λ pids. pid ∷ pids) said) ≡ with_front (front ++ pid ∷ []) said
joined front pid None = refl
joined front pid (Some x) = ap (λ (pids : List Pid). Some (pids, x.1)) (sym (append_assoc front (pid ∷ []) x.0))

-- what the first word says
abbrev led : Option Pid → List (List ℕ) → Worded (List Pid)
led read new = then_said (with_rest new read) (λ pid rest. said_as (λ pids. pid ∷ pids) (pids_in new))

pub goes_on : (all old new : List (List ℕ)) (front grown : List Pid) (word : List ℕ) (pid : Pid) → Goes all front old → old ≡ word ∷ new → pid_of (chars word) ≡ Some pid → grown ≡ front ++ pid ∷ [] → Goes all grown new
goes_on all old new front grown word pid h first read more =
    h ∙ ap (λ (words : List (List ℕ)). with_front front (pids_in words)) first
    ∙ ap (λ (p : Option Pid). with_front front (led p new)) read
    ∙ joined front pid (pids_in new)
    ∙ ap (λ (f : List Pid). with_front f (pids_in new)) (sym more)

pub goes_bad : (all old new : List (List ℕ)) (front : List Pid) (word : List ℕ) → Goes all front old → old ≡ word ∷ new → pid_of (chars word) ≡ None → pids_in all ≡ None
goes_bad all old new front word h first read =
    h ∙ ap (λ (words : List (List ℕ)). with_front front (pids_in words)) first
    ∙ ap (λ (p : Option Pid). with_front front (led p new)) read

pub goes_over : (all old new : List (List ℕ)) (front pids : List Pid) → Goes all front old → old ≡ [] → new ≡ [] → pids ≡ front → pids_in all ≡ Some (pids, new)
goes_over all old new front pids h over left same =
    h ∙ ap (λ (words : List (List ℕ)). with_front front (pids_in words)) over
    ∙ ap (λ (f : List Pid). Some (f, [])) (append-nil front ∙ sym same)
    ∙ ap (λ (words : List (List ℕ)). Some (pids, words)) (sym left)
