-- Which items are new when they follow, and in which way items came about that are there.
use Rattle.std.proofs.Common.{◌≡◌, ◌⊎◌, ⊎_elim, inl, inr, ℕ, zero, suc, List, [], ◌∷◌, ◌++◌, Some, None, Option, length, Contains, refl, sym, ap, ◌∙◌, subst, arith, slice_get, length-append}
use Rattle.std.proofs.lemmas.Option.{same_Some, slice_get_within}
use Rattle.ig_text.specs.Input.{Input}
use Rattle.ig_text.specs.Pattern.{Matches}
use Rattle.ig_text.specs.declared.pattern.Pattern.{Pattern}
use Rattle.ig_text.proofs.Lists.{at_from_contains, get_within}
use Rattle.ig_text.proofs.Matching.{one_begin}
use Rattle.ig_expr.specs.Expression.{Expression}
use Rattle.ig_expr.specs.declared.value.Value.{Value}
use Rattle.ig_item.specs.Core.{IsAlternative, numbered}
use Rattle.ig_item.specs.Gives as given
use Rattle.ig_item.specs.Gives.{Taken, Gives}
use Rattle.ig_item.specs.Items as items
use Rattle.ig_item.specs.Items.{Item, Follows, StandsBefore, first, past, span_of, root_instance}
use Rattle.ig_item.specs.Step.{Step, Test, Bind, Term, Call}
use Rattle.ig_item.specs.Ways as ways
use Rattle.ig_item.specs.WellKinded.{HasRoot}
use Rattle.ig_item.specs.declared.core_grammar.Nonterminal.{Nonterminal}
use Rattle.ig_item.specs.declared.core_grammar.CoreAlt.{CoreAlt}
use Rattle.ig_item.specs.declared.items.Instance.{Instance}
use Rattle.ig_item.specs.declared.ways.Way.{Way}
use Rattle.ig_item.specs.declared.ways.Way.TheVariants.{Begin, Pass, Leaf, Node as Tree}
use Rattle.ig_queue.specs.declared.ticket.Ticket.{Ticket}
use Rattle.ig_run_laws.specs.AfterBy as by
use Rattle.ig_run_laws.specs.AfterBy.{AfterBy}
use Rattle.ig_run_laws.specs.Finding.{Finding, IsRecorded, IsTaken, Takes}
use Rattle.ig_run_laws.specs.Laws.{FirstsAreNew, FirstsAreRecorded, StepsComeOnce}
use Rattle.ig_run_laws.specs.Rules.{IsFirstOf}
use Rattle.ig_run_laws.specs.Run.{IsWhole}
use Rattle.ig_run_laws.specs.Stacks.{Node, IsCalled, keys_of}
use Rattle.ig_run_laws.specs.Trail as trails
use Rattle.ig_run_laws.specs.Trail.{IsWayNamed}
use Rattle.ig_run_laws.proofs.Events as events
use Rattle.ig_run_laws.proofs.Steps.{one_step, stands_too}

-- equally long beginnings of one list are equal
same_beginning : (us vs rest others : List Value) → length us ≡ length vs → us ++ rest ≡ vs ++ others → us ≡ vs
same_beginning [] [] rest others long e = refl
same_beginning [] (v ∷ vs) rest others long e = absurd (omega (arith, long))
same_beginning (u ∷ us) [] rest others long e = absurd (omega (arith, long))
same_beginning (u ∷ us) (v ∷ vs) rest others long e =
    let head : u ≡ v = cc in
    let tail : us ++ rest ≡ vs ++ others = cc in
    let tails = same_beginning us vs rest others (omega (arith, long)) tail in λ i. head i ∷ tails i

-- and where as much comes behind them
same_front : (us vs rest others : List Value) → length rest ≡ length others → us ++ rest ≡ vs ++ others → us ≡ vs
same_front us vs rest others long e =
    let a = length-append us rest in let b = length-append vs others in let c = ap length e in
    same_beginning us vs rest others (omega (arith, a, b, c, long)) e

same_item : (x y : Item) → x.instance ≡ y.instance → x.alternative ≡ y.alternative → x.dot ≡ y.dot → x.env ≡ y.env →
    x.position ≡ y.position → x ≡ y
same_item x y a b c d e = λ i. record { instance = a i; alternative = b i; dot = c i; env = d i; position = e i }

span_width : (label : Option (List ℕ)) (i j k l : ℕ) → length (span_of label i j) ≡ length (span_of label k l)
span_width None i j k l = refl
span_width (Some name) i j k l = refl

-- x is the item after a step of two items
pub record AreBefore (x y it : Item) (bound other : List Value) (j k : ℕ) : Type 0 where
  pub of_y : x ≡ past y bound j
  pub of_it : x ≡ past it other k

module _ (x y it : Item) (bound other : List Value) (j k : ℕ) (b : AreBefore x y it bound other j k) where
  one : past y bound j ≡ past it other k
  one = sym b.of_y ∙ b.of_it

  same_instance : y.instance ≡ it.instance
  same_instance = ap (λ (z : Item). z.instance) one

  same_alternative : y.alternative ≡ it.alternative
  same_alternative = ap (λ (z : Item). z.alternative) one

  same_dot : y.dot ≡ it.dot
  same_dot = let e : suc y.dot ≡ suc it.dot = ap (λ (z : Item). z.dot) one in omega (arith, e)

  -- the items are the same if they stand at one position and the step binds equally many values
  pub before_one : length bound ≡ length other → y.position ≡ it.position → y ≡ it
  before_one long here =
      same_item y it same_instance same_alternative same_dot
      (same_front y.env it.env bound other long (ap (λ (z : Item). z.env) one)) here

  pub stands_there : (core : List Nonterminal) (names : List (List ℕ)) (s : Step) → StandsBefore core y names s → StandsBefore core it names s
  stands_there core names s p = stands_too core y it names s same_instance same_alternative same_dot p

  pub came_to : j ≡ k
  came_to = ap (λ (z : Item). z.position) one

-- a first item comes by no step
not_first : (x it : Item) (i : Instance) (n : ℕ) (bound : List Value) (j : ℕ) → x ≡ first i n → x ≡ past it bound j → ⊥
not_first x it i n bound j e f =
    let d : 0 ≡ suc it.dot = ap (λ (z : Item). z.dot) (sym e ∙ f) in omega (arith, d)

-- an item behind a step that calls nothing follows from the item before it alone
module _ (core : List Nonterminal) (text : Input) (known : Item → Type 0) (it : Item) (new : known it → ⊥) (x : Item) where
  module _ (names : List (List ℕ)) (s : Step) (other : List Value) (k : ℕ) (before : StandsBefore core it names s) (is : x ≡ past it other k) where
    pair : (y : Item) (bound : List Value) (j : ℕ) → x ≡ past y bound j → AreBefore x y it bound other j k
    pair y bound j e = record { of_y = e; of_it = is }

    -- the two items stand before one step
    step_of : (y : Item) (bound : List Value) (j : ℕ) (ns : List (List ℕ)) (r : Step) → x ≡ past y bound j → StandsBefore core y ns r → r ≡ s
    step_of y bound j ns r e p =
        one_step core text it ns names r s (stands_there x y it bound other j k (pair y bound j e) core ns r p) before

    unlike : (y : Item) (bound : List Value) (j : ℕ) → x ≡ past y bound j → known y → length bound ≡ length other → y.position ≡ it.position → ⊥
    unlike y bound j e kn long here = new (subst known (before_one x y it bound other j k (pair y bound j e) long here) kn)

  no_test : (names : List (List ℕ)) (e : Expression) → StandsBefore core it names (Test e) → x ≡ past it [] it.position → Follows core text known x → ⊥
  no_test names e before is (items.root z f) = not_first x it root_instance 1 [] it.position f is
  no_test names e before is (items.test y ns c z k b holds f) =
      unlike names (Test e) [] it.position before is y [] y.position f k refl
      (came_to x y it [] [] y.position it.position (pair names (Test e) [] it.position before is y [] y.position f))
  no_test names e before is (items.bind y ns name c v z k b has f) =
      let q = step_of names (Test e) [] it.position before is y (v ∷ []) y.position ns (Bind name c) f b in cc
  no_test names e before is (items.terminal y ns what label excluded j z k b matches free f) =
      let q = step_of names (Test e) [] it.position before is y (span_of label y.position j) j ns (Term what label excluded) f b in cc
  no_test names e before is (items.call y callee label excluded n a alternative z k calls at f) = not_first x it callee a [] it.position f is
  no_test names e before is (items.return y done label excluded z k l calls complete free f) =
      let q = step_of names (Test e) [] it.position before is y (span_of label y.position done.position) done.position calls.names
      (Call done.instance.nonterminal calls.arguments label excluded) f calls.before in cc

  no_bind : (names : List (List ℕ)) (name : List ℕ) (e : Expression) (u : Value) → StandsBefore core it names (Bind name e) →
      x ≡ past it (u ∷ []) it.position → Follows core text known x → ⊥
  no_bind names name e u before is (items.root z f) = not_first x it root_instance 1 (u ∷ []) it.position f is
  no_bind names name e u before is (items.test y ns c z k b holds f) =
      let q = step_of names (Bind name e) (u ∷ []) it.position before is y [] y.position ns (Test c) f b in cc
  no_bind names name e u before is (items.bind y ns other c v z k b has f) =
      unlike names (Bind name e) (u ∷ []) it.position before is y (v ∷ []) y.position f k refl
      (came_to x y it (v ∷ []) (u ∷ []) y.position it.position
      (pair names (Bind name e) (u ∷ []) it.position before is y (v ∷ []) y.position f))
  no_bind names name e u before is (items.terminal y ns what label excluded j z k b matches free f) =
      let q = step_of names (Bind name e) (u ∷ []) it.position before is y (span_of label y.position j) j ns (Term what label excluded) f b in cc
  no_bind names name e u before is (items.call y callee label excluded n a alternative z k calls at f) =
      not_first x it callee a (u ∷ []) it.position f is
  no_bind names name e u before is (items.return y done label excluded z k l calls complete free f) =
      let q = step_of names (Bind name e) (u ∷ []) it.position before is y (span_of label y.position done.position) done.position calls.names
      (Call done.instance.nonterminal calls.arguments label excluded) f calls.before in cc

  module _ (names : List (List ℕ)) (what : Pattern) (label : Option (List ℕ)) (excluded : List Pattern) (j : ℕ)
      (before : StandsBefore core it names (Term what label excluded)) (matches : Matches text what it.position j)
      (is : x ≡ past it (span_of label it.position j) j) where
    abbrev step : Step
    step = Term what label excluded

    abbrev span : List Value
    span = span_of label it.position j

    no_terminal : Follows core text known x → ⊥
    no_terminal (items.root z f) = not_first x it root_instance 1 span j f is
    no_terminal (items.test y ns c z k b holds f) = let q = step_of names step span j before is y [] y.position ns (Test c) f b in cc
    no_terminal (items.bind y ns other c v z k b has f) =
        let q = step_of names step span j before is y (v ∷ []) y.position ns (Bind other c) f b in cc
    no_terminal (items.terminal y ns pattern l ex i z k b m free f) =
        let q = step_of names step span j before is y (span_of l y.position i) i ns (Term pattern l ex) f b in
        let same_pattern : pattern ≡ what = cc q in
        let same_label : l ≡ label = cc q in
        let here : i ≡ j = came_to x y it (span_of l y.position i) span i j (pair names step span j before is y (span_of l y.position i) i f) in
        let match : Matches text what y.position j =
        subst (λ (n : ℕ). Matches text what y.position n) here (subst (λ (n : Pattern). Matches text n y.position i) same_pattern m) in
        let g : x ≡ past y (span_of label y.position i) i = f ∙ ap (λ (n : Option (List ℕ)). past y (span_of n y.position i) i) same_label in
        unlike names step span j before is y (span_of label y.position i) i g k (span_width label y.position i it.position j)
        (one_begin text what y.position it.position j match matches)
    no_terminal (items.call y callee l ex n a alternative z k calls at f) = not_first x it callee a span j f is
    no_terminal (items.return y done l ex z k m calls complete free f) =
        let q = step_of names step span j before is y (span_of l y.position done.position) done.position calls.names
        (Call done.instance.nonterminal calls.arguments l ex) f calls.before in cc

-- what follows over such a step isn't found before the item is taken
module _ (core : List Nonterminal) (text : Input) (a : Finding) (nodes : List Node) (rest : List Ticket) (t : Ticket) (it x : Item)
    (whole : IsWhole core text a nodes) (w : Takes a rest t it) (c : Contains a.items x) where
  abbrev known : Item → Type 0
  known = IsTaken a.items a.waiting

  followed : Follows core text known x
  followed = (whole.run.exact x).0 c

  not_yet : known it → ⊥
  not_yet = (events.known_too core text a nodes rest t it whole w).new

  comes_once : (way : Way) → AfterBy core text a.items nodes it t.number way x → (way ≡ Pass t.number) ⊎ (way ≡ Leaf t.number) → ⊥
  comes_once way (by.test names e before holds is f) alone = no_test core text known it not_yet x names e before f followed
  comes_once way (by.bind names name e v before has is f) alone = no_bind core text known it not_yet x names name e v before f followed
  comes_once way (by.terminal names what label excluded j before matches free is f) alone =
      no_terminal core text known it not_yet x names what label excluded j before matches f followed
  comes_once way (by.call callee d f is) alone =
      ⊎_elim (λ (h : way ≡ Pass t.number). let e : Begin ≡ Pass t.number = sym is ∙ h in cc)
      (λ (h : way ≡ Leaf t.number). let e : Begin ≡ Leaf t.number = sym is ∙ h in cc) alone
  comes_once way (by.return callee p has r is) alone =
      ⊎_elim (λ (h : way ≡ Pass t.number). let e : Tree t.number p.done ≡ Pass t.number = sym is ∙ h in cc)
      (λ (h : way ≡ Leaf t.number). let e : Tree t.number p.done ≡ Leaf t.number = sym is ∙ h in cc) alone
  comes_once way (by.returned d caller complete has at r is) alone =
      ⊎_elim (λ (h : way ≡ Pass t.number). let e : Tree d t.number ≡ Pass t.number = sym is ∙ h in cc)
      (λ (h : way ≡ Leaf t.number). let e : Tree d t.number ≡ Leaf t.number = sym is ∙ h in cc) alone

pub steps_come_once : StepsComeOnce
steps_come_once core text a nodes rest t it x way whole w m alone c = comes_once core text a nodes rest t it x whole w c way m alone

pub firsts_are_new : FirstsAreNew
firsts_are_new core text a nodes callee x whole none f c =
    none (subst (Contains (keys_of nodes)) (ap (λ (z : Item). z.instance) f.is) (whole.have_nodes x c))

-- each item that is found has a way
module _ (core : List Nonterminal) (text : Input) (a : Finding) (nodes : List Node) (whole : IsWhole core text a nodes) where
  way_at : (n : ℕ) (x : Item) → slice_get a.items n ≡ Some x → (way : Way) × (slice_get a.lists.firsts n ≡ Some way)
  way_at n x at =
      let l = slice_get_within a.items n x at in let e = whole.trail.number in get_within a.lists.firsts n (omega (arith, l, e))

  abbrev Named : Item → Way → Type 0
  Named x way = IsWayNamed core text (IsTaken a.items a.waiting) a.items nodes x way

  given_past : (prev : Item) (taken : Taken) (x : Item) → Gives core text (IsTaken a.items a.waiting) prev taken x → x.dot ≡ suc prev.dot
  given_past p v y (given.test prev names e x k before holds f) = ap (λ (z : Item). z.dot) f
  given_past p v y (given.bind prev names name e u x k before has f) = ap (λ (z : Item). z.dot) f
  given_past p v y (given.terminal prev names what label excluded j taken x k before matches free e f) = ap (λ (z : Item). z.dot) f
  given_past p v y (given.return prev done label excluded key x k l calls completes free f) = ap (λ (z : Item). z.dot) f

  begins : (x : Item) (way : Way) → x.dot ≡ 0 → Named x way → way ≡ Begin
  begins x way start (trails.begin e) = refl
  begins x way start (trails.comes v prev taken says gives) =
      let d = given_past prev taken x gives in absurd (omega (arith, start, d))

  first_recorded : (x : Item) → x.dot ≡ 0 → Contains a.items x → IsRecorded a Begin x
  first_recorded x start c =
      let at = at_from_contains a.items x c in
      let way = way_at at.0 x at.1 in
      let is = begins x way.0 start (whole.trail.sound at.0 x way.0 at.1 (ways.found way.1)) in
      (at.0, at.1, ways.found (way.1 ∙ ap Some is))

-- the root has one alternative
module _ (core : List Nonterminal) (root : HasRoot core) where
  only_first : (members : List CoreAlt) (only member : CoreAlt) (n : ℕ) → members ≡ only ∷ [] → numbered members n ≡ Some member → n ≡ 1
  only_first members only member n e f = alone n (ap (λ (z : List CoreAlt). numbered z n) (sym e) ∙ f)
    where
      alone : (n : ℕ) → numbered (only ∷ []) n ≡ Some member → n ≡ 1
      alone zero g = cc
      alone (suc zero) g = refl
      alone (suc (suc k)) g = cc

  root_alone : (n : ℕ) (nonterminal : Nonterminal) (alternative : CoreAlt) → IsAlternative core 0 n nonterminal alternative → n ≡ 1
  root_alone n nonterminal alternative at =
      let same : nonterminal ≡ root.nonterminal = same_Some nonterminal root.nonterminal (sym at.there ∙ root.first) in
      only_first nonterminal.alternatives root.alternative alternative n (ap (λ (z : Nonterminal). z.alternatives) same ∙ root.single) at.has

module _ (core : List Nonterminal) (text : Input) (a : Finding) (nodes : List Node) (callee : Instance) (x : Item) (root : HasRoot core)
    (whole : IsWhole core text a nodes) (f : IsFirstOf core callee x) where
  abbrev taken : Item → Type 0
  taken = IsTaken a.items a.waiting

  first_follows : (callee ≡ root_instance) ⊎ IsCalled core text taken callee → Follows core text taken x
  first_follows (inl e) =
      let one = root_alone core root f.number f.nonterminal f.alternative
      (subst (λ (z : Instance). IsAlternative core z.nonterminal f.number f.nonterminal f.alternative) e f.has) in
      items.root x (f.is ∙ ap (λ (z : Instance). first z f.number) e ∙ ap (first root_instance) one)
  first_follows (inr d) =
      items.call d.item callee d.calls.label d.calls.excluded f.nonterminal f.number f.alternative x d.is_known d.calls.calls f.has f.is

pub firsts_are_recorded : FirstsAreRecorded
firsts_are_recorded core text a nodes callee x root whole there f =
    first_recorded core text a nodes whole x (ap (λ (z : Item). z.dot) f.is)
    ((whole.run.exact x).1 (first_follows core text a nodes callee x root whole f ((whole.stacks.keys callee).0 there)))
