-- Chains of links in a table of joins, the bounded searches that find their ends, and the largest number of links. Assumes nothing.
use Prim.Native.Nat.{ℕ, zero, suc, ◌≤◌, ◌<◌}
use mathlib.Core.Path.{◌≡◌, refl, sym, ap, subst, subst₂}
use mathlib.Core.Option.{Option, none, some}
use native.Mathlib.Omega.{arith}
use Rattle.trace.specs.Trace.{Trace, TASKS}
use Rattle.trace.specs.Search.{largest_below}
use Rattle.trace.specs.Joins.{Parents, Chain, top, up, top_within, links_within, top_of, links_of, MAX_LINKS, joins_after, longest_after}
use Rattle.trace.specs.Demands.{FewLinks, MostLinks}
use Rattle.trace.proofs.Tests.{either, last_or_below, lt_or_le}

-- ---- parents

pub none_not_some : {p : ℕ} {z : Option ℕ} → z ≡ none → z ≡ some p → ⊥
none_not_some e f = let z : ◌≡◌ {A = ℕ} 0 1 = cc (e, f) in omega arith

pub some_same : {p q : ℕ} {z : Option ℕ} → z ≡ some p → z ≡ some q → p ≡ q
some_same e f = cc (e, f)

-- ---- chains

-- A search that may follow as many links finds a chain's end and length.
chain_within : {parent : Parents} {t h k : ℕ} → Chain parent t h k → (n : ℕ) → k ≤ n → (top_within n parent t ≡ h) × (links_within n parent t ≡ k)
unfolding top_within links_within
chain_within (top e) zero l = (refl, refl)
chain_within (top e) (suc n) l = (rw e, rw e)
chain_within (up e r) zero l = absurd (omega arith)
chain_within (up e r) (suc n) l = let rest = chain_within r n (omega arith) in (rw e rest.0, rw e (ap suc rest.1))

-- A chain of no more links than there are tasks leads to the top.
module _ {parent : Parents} {t h k : ℕ} (r : Chain parent t h k) (few : k ≤ TASKS) where
  pub chain_top : top_of parent t ≡ h
  unfolding top_of
  chain_top = (chain_within r TASKS few).0

  pub chain_links : links_of parent t ≡ k
  unfolding links_of
  chain_links = (chain_within r TASKS few).1

  pub chain_ends : Chain parent t (top_of parent t) (links_of parent t)
  chain_ends = subst₂ (λ (x y : ℕ). Chain parent t x y) (sym chain_top) (sym chain_links) r

-- Where a chain starts with a link, the rest is a chain from the parent.
pub chain_rest : {parent : Parents} {t h k p : ℕ} → Chain parent t h k → parent t ≡ some p → (j : ℕ) × (k ≡ suc j) × Chain parent p h j
chain_rest (top e) n = absurd (none_not_some e n)
chain_rest {parent} {h = h} (up {k = j} e r) n = (j, refl, subst (λ (q : ℕ). Chain parent q h j) (some_same e n) r)

-- Two chains from one task have one length.
pub chain_same : {parent : Parents} {t h k h' k' : ℕ} → Chain parent t h k → Chain parent t h' k' → k ≡ k'
chain_same (top e) (top e') = refl
chain_same (top e) (up e' r') = absurd (none_not_some e e')
chain_same (up e r) r' = let rest = chain_rest r' e in omega (arith, chain_same r rest.2, rest.1)

-- ---- the largest of many numbers

pub largest_ge : (n : ℕ) (f : ℕ → ℕ) (i : ℕ) → i < n → f i ≤ largest_below n f
unfolding largest_below
largest_ge zero f i l = absurd (omega arith)
largest_ge (suc n) f i l = either (last_or_below i n l) (λ e. rw e (omega arith)) (λ b. omega (arith, largest_ge n f i b))

pub largest_has : (n : ℕ) (f : ℕ → ℕ) → 0 < n → (i : ℕ) × (i < n) × (f i ≡ largest_below n f)
unfolding largest_below
largest_has zero f l = absurd (omega arith)
largest_has (suc zero) f l = (0, omega arith, omega arith)
largest_has (suc (suc n)) f l =
    let rest = largest_has (suc n) f (omega arith) in
    either (lt_or_le (largest_below (suc n) f) (f (suc n))) (λ m. (suc n, omega arith, omega arith))
    (λ m. (rest.0, omega (arith, rest.1), omega (arith, rest.2)))

pub largest_same : (n : ℕ) (f g : ℕ → ℕ) → ((i : ℕ) → i < n → f i ≡ g i) → largest_below n f ≡ largest_below n g
unfolding largest_below
largest_same zero f g h = refl
largest_same (suc n) f g h = rw (h n (omega arith), largest_same n f g (λ i l. h i (omega arith)))

-- ---- the largest number of links

module _ {tr : Trace} {m : ℕ} (f : FewLinks tr m) where
  abbrev table : Parents
  table = joins_after tr m

  links_of_chain : {t h k : ℕ} → t < TASKS → Chain table t h k → links_of table t ≡ k
  links_of_chain {t} {h} {k} l r = chain_links r (omega (arith, f.few t h k l r))

  pub longest_most : MostLinks tr m (longest_after tr m)
  unfolding longest_after
  longest_most =
      let found = largest_has TASKS (links_of table) (omega arith) in
      let t = found.0 in
      record {
        has = (t, top_of table t, found.1, subst (λ (k : ℕ). Chain table t (top_of table t) k) found.2 (f.chain t found.1));
        most = λ t h k l r. omega (arith, links_of_chain l r, largest_ge TASKS (links_of table) t l);
      }

  pub most_few : {links : ℕ} → MostLinks tr m links → links ≤ MAX_LINKS
  most_few {links} s = let has = s.has in f.few has.0 has.1 links has.2 has.3

  -- No other number is the largest.
  pub most_decided : {links : ℕ} → MostLinks tr m links → links ≡ longest_after tr m
  most_decided {links} s =
      let has = s.has in
      let has' = longest_most.has in
      omega (arith, longest_most.most has.0 has.1 links has.2 has.3, s.most has'.0 has'.1 (longest_after tr m) has'.2 has'.3)
