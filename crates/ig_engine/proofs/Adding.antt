-- Functions that add items, one after the other.
use Rattle.std.proofs.Common.{◌≡◌, ◌⊎◌, ⊎_elim, ℕ, ◌<◌, ◌≤◌, List, [], ◌∷◌, ◌++◌, length, Contains, Some, refl, sym, ap, ◌∙◌, subst, arith, map, slice_get, length-append}
use Rattle.std.specs.Prelude.{Bool, true, false, Result, Ok, Err, OnOk, IfErr, Option, None}
use Rattle.std.specs.Result.{IsErrAnd}
use Rattle.std.specs.List.Sorted.{IsPermutation}
use Rattle.std.proofs.lemmas.Result.{err_from_is_err_and}
use Rattle.std.proofs.lemmas.List.{length-map, map-append}
use Rattle.ig_text.proofs.Lists.{in_pushed, mapped_at}
use Rattle.ig_expr.specs.declared.value.Value.{Value}
use Rattle.ig_item.specs.Items.{Item}
use Rattle.ig_item.specs.Ways.{WayLists}
use Rattle.ig_item.specs.WellKinded.{NoneTwice}
use Rattle.ig_item.specs.declared.items.Item as stored
use Rattle.ig_item.specs.declared.run_fault.RunFault.{RunFault}
use Rattle.ig_item.specs.declared.run_fault.RunFault.TheVariants as fault
use Rattle.ig_item.specs.declared.ways.Way.{Way}
use Rattle.ig_item.specs.declared.ways.Way.TheVariants.{Node as Tree}
use Rattle.ig_run_moves.specs.Finding as numbered
use Rattle.ig_run_moves.specs.Finding.{Pushed, Returns, ticket_of}
use Rattle.ig_run_moves.specs.Tables.{Moves}
use Rattle.ig_run_laws.specs.Finding.{Finding, Finds, Records}
use Rattle.ig_run_tables.specs.Extends.{Extends}
use Rattle.ig_engine.specs.Adding.{Adds, AddsBehind, By, ComesBehind, IsAdded, IsOver, Pushes, ReturnsIn, at_once, looked_up}
use Rattle.ig_engine.specs.Given as laws
use Rattle.ig_engine.specs.Reached.{Reached, AreTables, Named, keys_in, means, reached, seen}
use Rattle.ig_engine.proofs.Lists.{extends_itself, extends_by, extends_same, extends_then}
use Rattle.ig_engine.proofs.Recording.{records_nothing, records_alike, records_then, records_new, records_further, finds_nothing, finds_one, finds_then, finds_alike}
use Rattle.ig_engine.proofs.Tables.{grown_seen, grown_tables, not_seen}

-- nothing is to be added
pub adds_nothing : (may : Way → Item → Type 0) (budget : ℕ) (a : Reached) → AreTables a → ((way : Way) (x : Item) → may way x → ⊥) →
    IsAdded may budget a a
adds_nothing may budget a t never =
    record {
      envs = extends_itself a.envs;
      nodes = refl;
      tables = t;
      items = extends_itself a.found.items;
      finds = finds_nothing may (seen a).items (seen a).items refl;
      records = records_nothing may (seen a) never;
      within = λ h. h;
    }

-- the same items are allowed in the same ways
pub adds_alike : (may other : Way → Item → Type 0) (budget : ℕ) (a b : Reached) (r : Result (Unit {0}) RunFault) →
    ((way : Way) (x : Item) → may way x → other way x) → ((way : Way) (x : Item) → other way x → may way x) →
    Adds may budget a b r → Adds other budget a b r
adds_alike may other budget a b (Ok u) into back d =
    record {
      envs = d.envs;
      nodes = d.nodes;
      tables = d.tables;
      items = d.items;
      finds = finds_alike may other (seen a).items (seen b).items into d.finds;
      records = records_alike may other (seen a) (seen b) into back d.records;
      within = d.within;
    }
adds_alike may other budget a b (Err fault.Budget) into back d =
    record { finds = finds_alike may other (seen a).items (seen b).items into d.finds; over = d.over }
adds_alike may other budget a b (Err fault.Memory) into back d = tt

-- the environments grew before
pub adds_grown : (given : laws.Tables) (may : Way → Item → Type 0) (budget : ℕ) (a : Reached) (envs : List (List Value)) (c : Reached)
    (r : Result (Unit {0}) RunFault) → AreTables a → Extends a.envs envs → Adds may budget (reached envs a.nodes a.found) c r →
    Adds may budget a c r
adds_grown given may budget a envs c (Ok u) t wider d =
    record {
      envs = extends_then a.envs envs c.envs wider d.envs;
      nodes = d.nodes;
      tables = d.tables;
      items = d.items;
      finds = subst (λ (z : Finding). Finds may z.items (seen c).items) (grown_seen given a envs wider t) d.finds;
      records = subst (λ (z : Finding). Records may z (seen c)) (grown_seen given a envs wider t) d.records;
      within = d.within;
    }
adds_grown given may budget a envs c (Err fault.Budget) t wider d =
    record {
      finds = subst (λ (z : Finding). Finds may z.items (seen c).items) (grown_seen given a envs wider t) d.finds;
      over = d.over;
    }
adds_grown given may budget a envs c (Err fault.Memory) t wider d = tt

-- one after the other
pub adds_then : (may first second : Way → Item → Type 0) (budget : ℕ) (a b c : Reached) (r : Result (Unit {0}) RunFault) →
    ((way : Way) (x : Item) → first way x → may way x) → ((way : Way) (x : Item) → second way x → may way x) →
    ((way : Way) (x : Item) → may way x → first way x ⊎ second way x) → IsAdded first budget a b → Adds second budget b c r →
    Adds may budget a c r
adds_then may first second budget a b c (Ok u) one other split d e =
    record {
      envs = extends_then a.envs b.envs c.envs d.envs e.envs;
      nodes = e.nodes ∙ d.nodes;
      tables = e.tables;
      items = extends_then a.found.items b.found.items c.found.items d.items e.items;
      finds = finds_then may first second (seen a).items (seen b).items (seen c).items one other d.finds e.finds;
      records = records_then may first second (seen a) (seen b) (seen c) d.records e.records one other split;
      within = λ h. e.within (d.within h);
    }
adds_then may first second budget a b c (Err fault.Budget) one other split d e =
    record {
      finds = finds_then may first second (seen a).items (seen b).items (seen c).items one other d.finds e.finds;
      over = e.over;
    }
adds_then may first second budget a b c (Err fault.Memory) one other split d e = tt

-- a refusal stays one where more was allowed
pub stops_then : (may first second : Way → Item → Type 0) (budget : ℕ) (a b c : Reached) (f : RunFault) →
    ((way : Way) (x : Item) → first way x → may way x) → ((way : Way) (x : Item) → second way x → may way x) →
    IsAdded first budget a b → Adds second budget b c (Err f) → Adds may budget a c (Err f)
stops_then may first second budget a b c fault.Budget one other d e =
    record {
      finds = finds_then may first second (seen a).items (seen b).items (seen c).items one other d.finds e.finds;
      over = e.over;
    }
stops_then may first second budget a b c fault.Memory one other d e = tt

pub stops_alike : (may other : Way → Item → Type 0) (budget : ℕ) (a b : Reached) (f : RunFault) →
    ((way : Way) (x : Item) → may way x → other way x) → Adds may budget a b (Err f) → Adds other budget a b (Err f)
stops_alike may other budget a b fault.Budget into d =
    record { finds = finds_alike may other (seen a).items (seen b).items into d.finds; over = d.over }
stops_alike may other budget a b fault.Memory into d = tt

-- the exits of a `?`: memory ran out, or a callee was refused
pub adds_exit : (may : Way → Item → Type 0) (budget : ℕ) (a b : Reached) (r : Result (Unit {0}) RunFault) →
    IsErrAnd r (λ y. y ≡ fault.Memory) → Adds may budget a b r
adds_exit may budget a b r h =
    let e = err_from_is_err_and r h in
    subst (Adds may budget a b) (sym e.1) (subst (λ (z : RunFault). Adds may budget a b (Err z)) (sym e.2) tt)

pub adds_stops : (may : Way → Item → Type 0) (budget : ℕ) (a b : Reached) (r : Result (Unit {0}) RunFault) (e : RunFault) →
    IsErrAnd r (λ y. y ≡ e) → Adds may budget a b (Err e) → Adds may budget a b r
adds_stops may budget a b r e h d =
    let q = err_from_is_err_and r h in
    subst (Adds may budget a b) (sym q.1) (subst (λ (z : RunFault). Adds may budget a b (Err z)) (sym q.2) d)

-- an item was pushed
module _ (given : laws.Tables) (a : Reached) (t : AreTables a) (f : numbered.Finding) (y : stored.Item) (named : Named a y)
    (way : Way) (p : Pushed a.found f y way) (new : Contains (seen a).items (means a y) → ⊥) where
  abbrev after : Reached
  after = reached a.envs a.nodes f

  more_seen : (seen after).items ≡ (seen a).items ++ means a y ∷ []
  more_seen = ap (map (means a)) p.items ∙ map-append (means a) a.found.items (y ∷ [])

  numbered_seen : length a.found.ways.firsts ≡ length (seen a).items
  numbered_seen = t.numbers ∙ sym (length-map a.found.items (means a))

  put_seen : IsPermutation (record { position = y.position; number = length (seen a).items } ∷ a.found.waiting) f.waiting
  put_seen =
      subst (λ (n : ℕ). IsPermutation (ticket_of y n ∷ a.found.waiting) f.waiting) (sym (length-map a.found.items (means a))) p.waiting

  pushed_tables : AreTables after
  pushed_tables =
      record {
        environments = t.environments;
        instances = t.instances;
        values = t.values;
        items = λ x c.
            ⊎_elim (λ (h : Contains a.found.items x). t.items x h) (λ (h : x ≡ y). subst (Named a) (sym h) named)
            (in_pushed a.found.items y x (subst (λ (z : List stored.Item). Contains z x) p.items c));
        numbers =
            let n = ap (λ (z : WayLists). length z.firsts) p.ways in
            let m = ap length p.items in
            let i = length-append a.found.ways.firsts (way ∷ []) in
            let j = length-append a.found.items (y ∷ []) in let k = t.numbers in omega (arith, n, m, i, j, k);
      }

  pub pushed_finds : Finds (By way (λ x. x ≡ means a y)) (seen a).items (seen after).items
  pushed_finds = finds_one (By way (λ x. x ≡ means a y)) (seen a).items (seen after).items (means a y) way more_seen new (refl, refl)

  pub pushed_adds : (budget : ℕ) → (length a.found.items ≤ budget → length f.items ≤ budget) →
      IsAdded (By way (λ x. x ≡ means a y)) budget a after
  pushed_adds budget within =
      record {
        envs = extends_itself a.envs;
        nodes = refl;
        tables = pushed_tables;
        items = extends_by a.found.items f.items (y ∷ []) p.items;
        finds = pushed_finds;
        records = records_new (seen a) (seen after) (means a y) way more_seen (ap (λ (z : WayLists). z.firsts) p.ways)
            (ap (λ (z : WayLists). z.further) p.ways) (ap (λ (z : WayLists). z.ends) p.ways) new numbered_seen put_seen;
        within = within;
      }

  pub pushed_over : (budget : ℕ) → budget < length f.items → IsOver (By way (λ x. x ≡ means a y)) budget a after
  pushed_over budget over =
      record { finds = pushed_finds; over = let n = length-map f.items (means a) in omega (arith, n, over) }

pub pushes_add : (given : laws.Tables) (a : Reached) → AreTables a → (f : numbered.Finding) (y : stored.Item) → Named a y → (way : Way)
    (budget : ℕ) (r : Result (Unit {0}) RunFault) → (Contains (seen a).items (means a y) → ⊥) → Pushes a.found f y way budget r →
    Adds (By way (λ x. x ≡ means a y)) budget a (reached a.envs a.nodes f) r
pushes_add given a t f y named way budget (Ok u) new p = pushed_adds given a t f y named way p.0 new budget (λ h. p.1)
pushes_add given a t f y named way budget (Err fault.Budget) new p = pushed_over given a t f y named way p.0 new budget p.1
pushes_add given a t f y named way budget (Err fault.Memory) new p = tt

-- what `push` promises, in one
pub pushes_of : (a b : numbered.Finding) (item : stored.Item) (way : Way) (budget : ℕ) (r : Result (Unit {0}) RunFault) →
    OnOk r (Pushed a b item way) → OnOk r (length b.items ≤ budget) →
    IfErr r (λ f. f ≡ fault.Budget → Pushed a b item way × (budget < length b.items)) → Pushes a b item way budget r
pushes_of a b item way budget (Ok u) p within over = (p, within)
pushes_of a b item way budget (Err fault.Budget) p within over = over refl
pushes_of a b item way budget (Err fault.Memory) p within over = tt

-- and `add_returned`, and `push` of what is behind a first call
pub returns_of : (a b : numbered.Finding) (item : stored.Item) (prev done : ℕ) (is_first : Bool) (budget : ℕ) (r : Result (Unit {0}) RunFault) →
    is_first ≡ false → OnOk r (Returns a b item prev done) → OnOk r (length a.items ≤ budget → length b.items ≤ budget) →
    IfErr r (λ f. f ≡ fault.Budget → (Contains a.items item → ⊥) × Pushed a b item (Tree prev done) × (budget < length b.items)) →
    ReturnsIn a b item prev done is_first budget r
returns_of a b item prev done is_first budget (Ok u) other p within over = (looked_up other p, within)
returns_of a b item prev done is_first budget (Err fault.Budget) other p within over = over refl
returns_of a b item prev done is_first budget (Err fault.Memory) other p within over = tt

pub firsts_of : (a b : numbered.Finding) (item : stored.Item) (prev done : ℕ) (is_first : Bool) (budget : ℕ) (r : Result (Unit {0}) RunFault) →
    (Contains a.items item → ⊥) → is_first ≡ true → b.indexed ≡ a.indexed → OnOk r (Pushed a b item (Tree prev done)) →
    OnOk r (length b.items ≤ budget) →
    IfErr r (λ f. f ≡ fault.Budget → Pushed a b item (Tree prev done) × (budget < length b.items)) →
    ReturnsIn a b item prev done is_first budget r
firsts_of a b item prev done is_first budget (Ok u) none first same p within over = (at_once none p first same, λ h. within)
firsts_of a b item prev done is_first budget (Err fault.Budget) none first same p within over = (none, (over refl).0, (over refl).1)
firsts_of a b item prev done is_first budget (Err fault.Memory) none first same p within over = tt

-- an item came about by a call
module _ (given : laws.Tables) (a : Reached) (t : AreTables a) (f : numbered.Finding) (y : stored.Item) (named : Named a y)
    (prev done : ℕ) where
  -- once more
  again_adds : (budget number : ℕ) → slice_get a.found.items number ≡ Some y →
      f ≡ record a.found { ways = numbered.with_further a.found.ways (record { item = number; prev = prev; done = done }) } →
      IsAdded (By (Tree prev done) (λ x. x ≡ means a y)) budget a (reached a.envs a.nodes f)
  again_adds budget number at is =
      let items : f.items ≡ a.found.items = ap (λ (z : numbered.Finding). z.items) is in
      let same : (seen (reached a.envs a.nodes f)).items ≡ (seen a).items = ap (map (means a)) items in
      record {
        envs = extends_itself a.envs;
        nodes = refl;
        tables = record {
          environments = t.environments;
          instances = t.instances;
          values = t.values;
          items = λ x c. t.items x (subst (λ (z : List stored.Item). Contains z x) items c);
          numbers = ap (λ (z : numbered.Finding). length z.ways.firsts) is ∙ t.numbers ∙ ap length (sym items);
        };
        items = extends_same a.found.items f.items items;
        finds = finds_nothing (By (Tree prev done) (λ x. x ≡ means a y)) (seen a).items (seen (reached a.envs a.nodes f)).items same;
        records = records_further (seen a) (seen (reached a.envs a.nodes f)) (means a y) number prev done
            (mapped_at (means a) a.found.items number y at) same (ap (λ (z : numbered.Finding). z.ways.firsts) is)
            (ap (λ (z : numbered.Finding). z.ways.further) is) (ap (λ (z : numbered.Finding). z.ways.ends) is)
            (ap (λ (z : numbered.Finding). z.waiting) is);
        within = λ h. let n = ap length items in omega (arith, h, n);
      }

  returned_adds : (budget : ℕ) → Returns a.found f y prev done → (length a.found.items ≤ budget → length f.items ≤ budget) →
      IsAdded (By (Tree prev done) (λ x. x ≡ means a y)) budget a (reached a.envs a.nodes f)
  returned_adds budget (numbered.new none p indexed) within =
      pushed_adds given a t f y named (Tree prev done) p (not_seen given a t y named none) budget within
  returned_adds budget (numbered.again number at is) within = again_adds budget number at is

  behind_adds : (is_first : Bool) (budget : ℕ) → ComesBehind a.found f y prev done is_first →
      (length a.found.items ≤ budget → length f.items ≤ budget) →
      IsAdded (By (Tree prev done) (λ x. x ≡ means a y)) budget a (reached a.envs a.nodes f)
  behind_adds is_first budget (at_once none p first same) within =
      pushed_adds given a t f y named (Tree prev done) p (not_seen given a t y named none) budget within
  behind_adds is_first budget (looked_up other r) within = returned_adds budget r within

  pub returns_add : (is_first : Bool) (budget : ℕ) (r : Result (Unit {0}) RunFault) → ReturnsIn a.found f y prev done is_first budget r →
      Adds (By (Tree prev done) (λ x. x ≡ means a y)) budget a (reached a.envs a.nodes f) r
  returns_add is_first budget (Ok u) p = behind_adds is_first budget p.0 p.1
  returns_add is_first budget (Err fault.Budget) p =
      pushed_over given a t f y named (Tree prev done) p.1 (not_seen given a t y named p.0) budget p.2
  returns_add is_first budget (Err fault.Memory) p = tt

-- the item behind another one, after environments were added
module _ (given : laws.Tables) (a : Reached) (t : AreTables a) (envs : List (List Value)) (wider : Extends a.envs envs)
    (once : NoneTwice envs) (it : stored.Item) (it_named : Named a it) (behind : Item → Item → Type 0) (o : Option stored.Item)
    (m : Moves a.envs envs it behind o) (way : Way) where
  abbrev between : Reached
  between = reached envs a.nodes a.found

  pub between_tables : AreTables between
  between_tables = grown_tables given a envs wider t once

  pub moved_into : (y : stored.Item) → o ≡ Some y → (x : Item) → x ≡ means between y → behind (means a it) x
  moved_into y is x e = (m.exact (keys_in a) t.values it_named x).1 (y, is, sym e)

  pub moved_back : (y : stored.Item) → o ≡ Some y → (x : Item) → behind (means a it) x → x ≡ means between y
  moved_back y is x b =
      let q = (m.exact (keys_in a) t.values it_named x).0 b in
      let same : Some y ≡ Some q.0 = sym is ∙ q.1 in let e : y ≡ q.0 = cc same in sym q.2 ∙ ap (means between) (sym e)

  pub moved_named : (y : stored.Item) → o ≡ Some y → Named between y
  moved_named y is = m.named y is (keys_in a) it_named

  -- none is behind it
  pub moved_nowhere : o ≡ None → (x : Item) → behind (means a it) x → ⊥
  moved_nowhere is x b =
      let q = (m.exact (keys_in a) t.values it_named x).0 b in let no : None ≡ Some q.0 = sym is ∙ q.1 in cc

  -- none of what is behind it was found
  pub moved_new : ((x : Item) → behind (means a it) x → Contains (seen a).items x → ⊥) → (y : stored.Item) → o ≡ Some y →
      Contains (seen between).items (means between y) → ⊥
  moved_new new y is c =
      new (means between y) (moved_into y is (means between y) refl)
      (subst (λ (z : Finding). Contains z.items (means between y)) (grown_seen given a envs wider t) c)

  -- nothing was to be added
  pub moved_nothing : o ≡ None → (budget : ℕ) → Adds (By way (behind (means a it))) budget a between (Ok tt)
  moved_nothing is budget =
      adds_grown given (By way (behind (means a it))) budget a envs between (Ok tt) t wider
      (adds_nothing (By way (behind (means a it))) budget between between_tables (λ w x h. moved_nowhere is x h.1))

  pub moved_alike : (y : stored.Item) → o ≡ Some y → (budget : ℕ) (c : Reached) (r : Result (Unit {0}) RunFault) →
      Adds (By way (λ x. x ≡ means between y)) budget between c r → Adds (By way (behind (means a it))) budget a c r
  moved_alike y is budget c r d =
      adds_grown given (By way (behind (means a it))) budget a envs c r t wider
      (adds_alike (By way (λ x. x ≡ means between y)) (By way (behind (means a it))) budget between c r
      (λ w x h. (h.0, moved_into y is x h.1)) (λ w x h. (h.0, moved_back y is x h.1)) d)

  -- it was pushed, if there is one
  pub moved_pushes : ((x : Item) → behind (means a it) x → Contains (seen a).items x → ⊥) → (f : numbered.Finding) (budget : ℕ)
      (r : Result (Unit {0}) RunFault) → AddsBehind a.found f o way budget r →
      Adds (By way (behind (means a it))) budget a (reached envs a.nodes f) r
  moved_pushes new f budget r d = go o refl d
    where
      go : (p : Option stored.Item) → o ≡ p → AddsBehind a.found f p way budget r →
          Adds (By way (behind (means a it))) budget a (reached envs a.nodes f) r
      go None is h =
          subst (Adds (By way (behind (means a it))) budget a (reached envs a.nodes f)) (sym h.1)
          (subst (λ (z : numbered.Finding). Adds (By way (behind (means a it))) budget a (reached envs a.nodes z) (Ok tt)) (sym h.0)
          (moved_nothing is budget))
      go (Some y) is h =
          moved_alike y is budget (reached envs a.nodes f) r
          (pushes_add given between between_tables f y (moved_named y is) way budget r (moved_new new y is) h)
