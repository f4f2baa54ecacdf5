use Rattle.std.proofs.Common.{◌≡◌, ◌≤◌, ◌∷◌, ◌++◌, ◌∙◌, [], List, ℕ, ℤ, pos, length, ap, arith, rules, subst, sym, w64, to_z, of_z}
use Rattle.std.specs.Int.{w32, to_be_bytes}
use Rattle.pg_term.specs.declared.term.Term.TheVariants.{Int, List as Listed}
use Rattle.pg_term_io.specs.Writing.{IsSpelled, int_bytes, item_bytes, pid_bytes, written}
use Rattle.pg_node_process.specs.Mirrors.{entry}
use Rattle.pg_node_process.proofs.Entries.{body_len, entry_again, framed}
use Rattle.pg_node_process.proofs.outlet.Outlet.put_entry.Goals as goal

pub returns-clause-ok : goal.returns-clause-ok
returns-clause-ok c =
    let name = c.args.name.now in
    let pid = c.args.pid.now in
    let count = c.args.count in
    let put = to_z w64 (of_z w64 c.in-Ok-Ok.number) in
    let number : put ≡ pos count = search rules in
    let headed = c.extend_reserved.ensures.items ∙ ap (λ (bytes : List ℕ). bytes ++ c.to_be_bytes.result) c.in_ok-reserve.ensures.items in
    let before = c.extend_reserved-2.ensures.items ∙ ap (λ (bytes : List ℕ). bytes ++ 23 ∷ 131 ∷ 108 ∷ 0 ∷ 0 ∷ 0 ∷ 1 ∷ 104 ∷ 3 ∷ []) headed in
    let named = c.put_item.ensures.items ∙ ap (λ (bytes : List ℕ). bytes ++ item_bytes name) before in
    let paired = c.put_pid.ensures.items ∙ ap (λ (bytes : List ℕ). bytes ++ pid_bytes pid) named in
    let counted = c.put_int.ensures.items ∙ ap (λ (bytes : List ℕ). bytes ++ int_bytes put) paired in
    let ended = c.extend_reserved-3.ensures.items ∙ ap (λ (bytes : List ℕ). bytes ++ 106 ∷ []) counted in
    let len : length (23 ∷ written (Listed (entry name pid count ∷ []))) ≡ c.saturating_add-len.result =
    omega (arith, body_len name pid count, ap (λ (n : ℤ). length (int_bytes n)) number, c.in-Ok-Ok.ensures'.ok.0, c.pid_len.ensures.value, c.int_len.ensures.value, c.saturating_add-len.ensures, c.if-len-gt-MAX_LEN.false) in
    let fits : length (23 ∷ written (Listed (entry name pid count ∷ []))) ≤ 16777216 = omega (arith, len, c.if-len-gt-MAX_LEN.false) in
    record {
      framed = record {
        sayable = entry_again name pid count c.put_item.ensures.spelled c.put_pid.ensures.spelled (subst (λ (n : ℤ). IsSpelled (Int n)) number c.put_int.ensures.spelled) c.in-Ok-Ok.ensures'.ok.1 (omega (arith, fits));
        fits = fits;
      };
      wrote = framed c.extend_reserved-3.new.self.items c.args.self.now.gathered.items c.to_be_bytes.result name pid count put number (c.to_be_bytes.ensures ∙ ap (to_be_bytes w32) (sym len)) ended;
    }

pub returns-in_err-reserve-clause-succeeds : goal.returns-in_err-reserve-clause-succeeds
returns-in_err-reserve-clause-succeeds c low writable fits room =
    let put = to_z w64 (of_z w64 c.in-Ok-Ok.number) in
    let number : put ≡ pos c.args.count = search rules in
    let len = body_len c.args.name.now c.args.pid.now c.args.count in
    let never : ⊥ = omega (arith, len, ap (λ (n : ℤ). length (int_bytes n)) number, c.in-Ok-Ok.ensures'.ok.0, c.pid_len.ensures.value, c.int_len.ensures.value, c.saturating_add-len.ensures, c.if-len-gt-MAX_LEN.false, room.1, c.in_err-reserve.ensures.spare.1) in
    absurd never
