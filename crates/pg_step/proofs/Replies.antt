-- Two replies are equal exactly where they are one reply.
use Rattle.std.proofs.Common.{◌≡◌, true, false, ◌&&◌, nat_eq, List, refl, sym, ap, ◌∙◌}
use Rattle.std.specs.Bool.{Decides}
use Rattle.std.specs.Cmp.{first_so, second_so}
use Rattle.std.specs.Cmp.Lexicographic.{pointwise}
use Rattle.std.proofs.lemmas.Bool.{eqb-true, eq-eqb}
use Rattle.std.proofs.lemmas.Slice.Eq.{slice_eq-Decides}
use Rattle.pg_term.specs.declared.pid.Pid.{Pid}
use Rattle.pg_term.specs.declared.term.Term.{Term}
use Rattle.pg_term.specs.Same.{same_pid, same_term}
use Rattle.pg_term.specs.contracts.pid.PidEq.TheImpl.Laws as pid_laws
use Rattle.pg_term.specs.contracts.term.TermEq.TheImpl.Laws as term_laws
use Rattle.pg_term.proofs.Same.{pid_is, same_term as term_is}
use Rattle.pg_step.specs.declared.answer.Answer.{Answer}
use Rattle.pg_step.specs.declared.answer.Reply.{Reply}
use Rattle.pg_step.specs.declared.answer.Reply.TheVariants as reply
use Rattle.pg_step.specs.SameAnswers.{same_reply, same_answer}

clash : true ≡ false → ⊥
clash e = cc

pids_one : (pids others : List Pid) → Decides (pointwise same_pid pids others) (pids ≡ others)
pids_one pids others = slice_eq-Decides (λ x y. (pid_is x y, λ e. ap (same_pid x) (sym e) ∙ pid_laws.laws-law.refl x)) pids others (pointwise same_pid pids others) refl

names_one : (names others : List Term) → Decides (pointwise same_term names others) (names ≡ others)
names_one names others = slice_eq-Decides (λ x y. (term_is x y, λ e. ap (same_term x) (sym e) ∙ term_laws.laws-law.refl x)) names others (pointwise same_term names others) refl

pub reply_is : (x y : Reply) → same_reply x y ≡ true → x ≡ y
reply_is reply.Ok reply.Ok e = refl
reply_is reply.Ok (reply.Made y) e = absurd (clash (sym e))
reply_is reply.Ok (reply.Pids y) e = absurd (clash (sym e))
reply_is reply.Ok (reply.Closest y) e = absurd (clash (sym e))
reply_is reply.Ok (reply.Groups y) e = absurd (clash (sym e))
reply_is reply.Ok (reply.NoSuchGroup y) e = absurd (clash (sym e))
reply_is reply.Ok (reply.NoProcess y) e = absurd (clash (sym e))
reply_is reply.Ok (reply.Refused y) e = absurd (clash (sym e))
reply_is (reply.Made x) reply.Ok e = absurd (clash (sym e))
reply_is (reply.Made x) (reply.Made y) e = ap reply.Made (pid_is x y e)
reply_is (reply.Made x) (reply.Pids y) e = absurd (clash (sym e))
reply_is (reply.Made x) (reply.Closest y) e = absurd (clash (sym e))
reply_is (reply.Made x) (reply.Groups y) e = absurd (clash (sym e))
reply_is (reply.Made x) (reply.NoSuchGroup y) e = absurd (clash (sym e))
reply_is (reply.Made x) (reply.NoProcess y) e = absurd (clash (sym e))
reply_is (reply.Made x) (reply.Refused y) e = absurd (clash (sym e))
reply_is (reply.Pids x) reply.Ok e = absurd (clash (sym e))
reply_is (reply.Pids x) (reply.Made y) e = absurd (clash (sym e))
reply_is (reply.Pids x) (reply.Pids y) e = ap reply.Pids ((pids_one x y).0 e)
reply_is (reply.Pids x) (reply.Closest y) e = absurd (clash (sym e))
reply_is (reply.Pids x) (reply.Groups y) e = absurd (clash (sym e))
reply_is (reply.Pids x) (reply.NoSuchGroup y) e = absurd (clash (sym e))
reply_is (reply.Pids x) (reply.NoProcess y) e = absurd (clash (sym e))
reply_is (reply.Pids x) (reply.Refused y) e = absurd (clash (sym e))
reply_is (reply.Closest x) reply.Ok e = absurd (clash (sym e))
reply_is (reply.Closest x) (reply.Made y) e = absurd (clash (sym e))
reply_is (reply.Closest x) (reply.Pids y) e = absurd (clash (sym e))
reply_is (reply.Closest x) (reply.Closest y) e = ap reply.Closest (pid_is x y e)
reply_is (reply.Closest x) (reply.Groups y) e = absurd (clash (sym e))
reply_is (reply.Closest x) (reply.NoSuchGroup y) e = absurd (clash (sym e))
reply_is (reply.Closest x) (reply.NoProcess y) e = absurd (clash (sym e))
reply_is (reply.Closest x) (reply.Refused y) e = absurd (clash (sym e))
reply_is (reply.Groups x) reply.Ok e = absurd (clash (sym e))
reply_is (reply.Groups x) (reply.Made y) e = absurd (clash (sym e))
reply_is (reply.Groups x) (reply.Pids y) e = absurd (clash (sym e))
reply_is (reply.Groups x) (reply.Closest y) e = absurd (clash (sym e))
reply_is (reply.Groups x) (reply.Groups y) e = ap reply.Groups ((names_one x y).0 e)
reply_is (reply.Groups x) (reply.NoSuchGroup y) e = absurd (clash (sym e))
reply_is (reply.Groups x) (reply.NoProcess y) e = absurd (clash (sym e))
reply_is (reply.Groups x) (reply.Refused y) e = absurd (clash (sym e))
reply_is (reply.NoSuchGroup x) reply.Ok e = absurd (clash (sym e))
reply_is (reply.NoSuchGroup x) (reply.Made y) e = absurd (clash (sym e))
reply_is (reply.NoSuchGroup x) (reply.Pids y) e = absurd (clash (sym e))
reply_is (reply.NoSuchGroup x) (reply.Closest y) e = absurd (clash (sym e))
reply_is (reply.NoSuchGroup x) (reply.Groups y) e = absurd (clash (sym e))
reply_is (reply.NoSuchGroup x) (reply.NoSuchGroup y) e = ap reply.NoSuchGroup (term_is x y e)
reply_is (reply.NoSuchGroup x) (reply.NoProcess y) e = absurd (clash (sym e))
reply_is (reply.NoSuchGroup x) (reply.Refused y) e = absurd (clash (sym e))
reply_is (reply.NoProcess x) reply.Ok e = absurd (clash (sym e))
reply_is (reply.NoProcess x) (reply.Made y) e = absurd (clash (sym e))
reply_is (reply.NoProcess x) (reply.Pids y) e = absurd (clash (sym e))
reply_is (reply.NoProcess x) (reply.Closest y) e = absurd (clash (sym e))
reply_is (reply.NoProcess x) (reply.Groups y) e = absurd (clash (sym e))
reply_is (reply.NoProcess x) (reply.NoSuchGroup y) e = absurd (clash (sym e))
reply_is (reply.NoProcess x) (reply.NoProcess y) e = ap reply.NoProcess (term_is x y e)
reply_is (reply.NoProcess x) (reply.Refused y) e = absurd (clash (sym e))
reply_is (reply.Refused x) reply.Ok e = absurd (clash (sym e))
reply_is (reply.Refused x) (reply.Made y) e = absurd (clash (sym e))
reply_is (reply.Refused x) (reply.Pids y) e = absurd (clash (sym e))
reply_is (reply.Refused x) (reply.Closest y) e = absurd (clash (sym e))
reply_is (reply.Refused x) (reply.Groups y) e = absurd (clash (sym e))
reply_is (reply.Refused x) (reply.NoSuchGroup y) e = absurd (clash (sym e))
reply_is (reply.Refused x) (reply.NoProcess y) e = absurd (clash (sym e))
reply_is (reply.Refused x) (reply.Refused y) e = ap reply.Refused (eqb-true x y e)

pub reply_self : (x : Reply) → same_reply x x ≡ true
reply_self reply.Ok = refl
reply_self (reply.Made x) = pid_laws.laws-law.refl x
reply_self (reply.Pids x) = (pids_one x x).1 refl
reply_self (reply.Closest x) = pid_laws.laws-law.refl x
reply_self (reply.Groups x) = (names_one x x).1 refl
reply_self (reply.NoSuchGroup x) = term_laws.laws-law.refl x
reply_self (reply.NoProcess x) = term_laws.laws-law.refl x
reply_self (reply.Refused x) = eq-eqb x x refl

pub answer_is : (x y : Answer) → same_answer x y ≡ true → x ≡ y
answer_is x y e =
    let number = eqb-true x.number y.number (first_so (nat_eq x.number y.number) (same_reply x.reply y.reply) e) in
    let reply = reply_is x.reply y.reply (second_so (nat_eq x.number y.number) (same_reply x.reply y.reply) e) in
    λ i. record { number = number i; reply = reply i }

pub answer_self : (x : Answer) → same_answer x x ≡ true
answer_self x = ap (λ b. b && same_reply x.reply x.reply) (eq-eqb x.number x.number refl) ∙ reply_self x.reply
