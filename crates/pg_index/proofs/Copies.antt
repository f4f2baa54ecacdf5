-- Maps, listings and groups that are copied, and the names of a table.
use Rattle.std.proofs.Math.Path.{fun_ext}
use Rattle.std.proofs.Common.{◌≡◌, ℕ, suc, Bool, true, false, ◌||◌, cond, Option, Some}
use Rattle.std.proofs.Common.{None, List, [], ◌∷◌, refl, sym, ap, subst, ◌∙◌, arith}
use Rattle.std.specs.Prelude.{is_some, get_or, slice_index_or}
use Rattle.std.specs.Option.{option_or}
use Rattle.std.specs.List.{All, AllZip, IsDistinct, list_any}
use Rattle.std.specs.Map.{lookup}
use Rattle.std.specs.HashMap.{keys}
use Rattle.std.specs.Map.{keys_of}
use Rattle.std.specs.BTreeMap.{get, is_at}
use Rattle.std.specs.BTreeSet.{BTreeSet}
use Rattle.std.proofs.lemmas.Map.Entries.{lookup_from_place}
use Rattle.std.proofs.lemmas.Option.{slice_get-get_or}
use Rattle.slab.specs.Slab.{Slab, IsSlotClone, IsSlabClone}
use Rattle.pg_term.specs.declared.term.Term.{Term}
use Rattle.pg_term.specs.Same.{same_term, atom_cmp}
use Rattle.pg_term.specs.contracts.term.TermEq.TheImpl.Laws as term_laws
use Rattle.pg_term.specs.contracts.atom.AtomEq.TheImpl.Laws as atom_laws
use Rattle.pg_group.specs.Table.{AreNames}
use Rattle.pg_index_members.specs.declared.row.Row.{Row}
use Rattle.pg_index.specs.declared.listing.Listing.{Listing}
use Rattle.pg_index.specs.Groups.{Numbered, counts_at, counts_by_number, is_used}
use Rattle.pg_index.specs.Index.{Numbers, number_of, contents_of}
use Rattle.pg_index.specs.Listings.{listed_in, listing_of}
use Rattle.pg_index.proofs.Listed.{Nodes, has, nodes_tie}
use Rattle.pg_index.proofs.Tables.{is_there}

-- ---- names

-- a name has a number where it is among the names
pub has_among : (q : Term) (es : List (Term × ℕ)) → is_some (lookup (same_term q) es) ≡ list_any (same_term q) (keys_of es)
has_among q [] = refl
has_among q (e ∷ es) = go (same_term q e.0) (has_among q es)
  where
    go : (b : Bool) → is_some (lookup (same_term q) es) ≡ list_any (same_term q) (keys_of es) → is_some (cond b (Some e.1) (lookup (same_term q) es)) ≡ (b || list_any (same_term q) (keys_of es))
    go true later = refl
    go false later = later

-- each name is found with its number
pub found_each : (numbers : Numbers) → IsDistinct same_term (keys numbers) → All (λ e. number_of numbers e.0 ≡ Some e.1) numbers.entries
found_each numbers once = λ k d below. lookup_from_place term_laws.laws-law numbers.entries k (get_or numbers.entries k d).0 (get_or numbers.entries k d).1 once (slice_get-get_or numbers.entries k d below)

pub keys_are_names : (numbers : Numbers) (counts : Numbered) (names : List Term) → names ≡ keys numbers
    → ((q : Term) → is_some (number_of numbers q) ≡ list_any (same_term q) (keys numbers)) → IsDistinct same_term (keys numbers)
    → AreNames (contents_of (number_of numbers) counts) names
keys_are_names numbers counts names is has once = record {
  each = λ q. ap (λ (ks : List Term). list_any (same_term q) ks) is ∙ sym (has q) ∙ sym (is_there (number_of numbers) counts q);
  once = subst (IsDistinct same_term) (sym is) once;
}

-- ---- maps that are copied entry by entry

module _ {K X : Type 0} (at : K → K → Bool) (whole : K → Option X) where
  -- a map that was copied in part: what was copied, and the entries that are left
  pub record EntriesCopied (done : K → Option X) (left : List (K × X)) : Type 0 where
    pub overlaid : (q : K) → option_or (done q) (lookup (at q) left) ≡ whole q
    pub found : All (λ e. whole e.0 ≡ Some e.1) left

  pub entries_begun : (done : K → Option X) (left entries : List (K × X)) → left ≡ entries → ((q : K) → lookup (at q) entries ≡ whole q) → All (λ e. whole e.0 ≡ Some e.1) entries → ((q : K) → done q ≡ None)
      → EntriesCopied done left
  entries_begun done left entries is each all empty = record {
    overlaid = λ q. ap (λ (o : Option X). option_or o (lookup (at q) left)) (empty q) ∙ ap (λ (es : List (K × X)). lookup (at q) es) is ∙ each q;
    found = subst (All (λ e. whole e.0 ≡ Some e.1)) (sym is) all;
  }

  pub entries_more : ((x y : K) → at x y ≡ true → x ≡ y) → ((x y : K) → at x y ≡ at y x) → (old new : K → Option X) (k : K) (v : X) (before left : List (K × X)) → before ≡ (k, v) ∷ left → EntriesCopied old before
      → ((q : K) → new q ≡ cond (at k q) (Some v) (old q)) → EntriesCopied new left
  entries_more decides flips old new k v before left is copied after = record {
    overlaid = λ q. ap (λ (o : Option X). option_or o (lookup (at q) left)) (after q) ∙ go q (at k q) refl;
    found = λ i d below. here.found (suc i) d (omega arith);
  }
    where
      here : EntriesCopied old ((k, v) ∷ left)
      here = subst (λ (l : List (K × X)). EntriesCopied old l) is copied

      first : whole k ≡ Some v
      first = here.found 0 (k, v) (omega arith)

      go : (q : K) (b : Bool) → at k q ≡ b → option_or (cond b (Some v) (old q)) (lookup (at q) left) ≡ whole q
      go q true e = sym first ∙ ap whole (decides k q e)
      go q false e = ap (λ b. option_or (old q) (cond b (Some v) (lookup (at q) left))) (sym (flips q k ∙ e)) ∙ here.overlaid q

  or_none : (o : Option X) → option_or o None ≡ o
  or_none None = refl
  or_none (Some y) = refl

  pub entries_all : (done : K → Option X) (left : List (K × X)) → left ≡ [] → EntriesCopied done left → done ≡ whole
  entries_all done left is copied =
      let here = subst (λ (l : List (K × X)). EntriesCopied done l) is copied in
      fun_ext (λ q. sym (or_none (done q)) ∙ here.overlaid q)

-- ---- numbers

pub names_flip : (x y : Term) → same_term x y ≡ same_term y x
names_flip x y = term_laws.laws-law.symm x y

-- ---- listings

abbrev pub node_at : List ℕ → List ℕ → Bool
node_at q = is_at (atom_cmp q)

pub nodes_flip : (x y : List ℕ) → node_at x y ≡ node_at y x
nodes_flip x y = nodes_tie x y ∙ atom_laws.laws-law.symm x y ∙ sym (nodes_tie y x)

pub listed_alike : (copy whole : Nodes) → get atom_cmp copy ≡ get atom_cmp whole → listed_in copy ≡ listed_in whole
listed_alike copy whole e = fun_ext (λ pid. fun_ext (λ group. ap (λ (m : List ℕ → Option (BTreeSet Listing)). has (m pid.node) (listing_of pid group)) e))

pub keys_alike : {K : Type 0} (C : K → K → Type 0) → ((x y : K) → C x y → y ≡ x) → (xs ys : List K) → AllZip C xs ys → ys ≡ xs
keys_alike C h [] [] a = refl
keys_alike C h [] (y ∷ ys) a = absurd a
keys_alike C h (x ∷ xs) [] a = absurd a
keys_alike C h (x ∷ xs) (y ∷ ys) a = λ i. h x y a.0 i ∷ keys_alike C h xs ys a.1 i

-- an equal set was put in under an equal name
pub put_alike : (old new : Nodes) (copy node : List ℕ) (set twin : BTreeSet Listing) → copy ≡ node → twin.keys ≡ set.keys
    → ((q : List ℕ) → get atom_cmp new q ≡ cond (is_at (atom_cmp copy) q) (Some twin) (get atom_cmp old q))
    → (q : List ℕ) → get atom_cmp new q ≡ cond (node_at node q) (Some set) (get atom_cmp old q)
put_alike old new copy node set twin e same h q = h q ∙ (λ i. cond (node_at (e i) q) (Some (record { keys = same i })) (get atom_cmp old q))

-- ---- groups

slots_alike : (xs ys : List (Option (List Row))) → AllZip (IsSlotClone (λ x y. y ≡ x)) xs ys → ys ≡ xs
slots_alike [] [] a = refl
slots_alike [] (y ∷ ys) a = absurd a
slots_alike (x ∷ xs) [] a = absurd a
slots_alike (x ∷ xs) (y ∷ ys) a = λ i. slot x y a.0 i ∷ slots_alike xs ys a.1 i
  where
    slot : (x y : Option (List Row)) → IsSlotClone (λ x y. y ≡ x) x y → y ≡ x
    slot None y e = e
    slot (Some x) None e = absurd e
    slot (Some x) (Some y) e = ap Some e

pub groups_alike : (groups copy : Slab (List Row)) → IsSlabClone (λ x y. y ≡ x) groups copy → (counts_by_number copy ≡ counts_by_number groups) × (is_used copy ≡ is_used groups)
groups_alike groups copy h =
    let same = slots_alike groups.slots copy.slots h.slots in
    (λ i group. counts_at (slice_index_or (same i) group None), λ i group. is_some (slice_index_or (same i) group None))
