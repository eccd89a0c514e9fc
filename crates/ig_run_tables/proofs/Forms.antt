-- An expression has the value that its form says.
use Rattle.std.proofs.Common.{◌≡◌, ℕ, zero, suc, List, [], ◌∷◌, ◌++◌, Some, None, Option, Bool, refl, sym, ap, subst, ◌∙◌, map, drop, length, ◌+◌, ◌≤◌, slice_get, arith}
use Rattle.std.specs.Prelude.{option_map, option_and_then, slice_index_or, ℤ}
use Rattle.std.proofs.lemmas.Option.{same_Some, slice_get-map, get_or_from_slice_get}
use Rattle.std.proofs.lemmas.List.{append-nil, append_assoc, drop_all}
use Rattle.ig_text.specs.Input.{Input}
use Rattle.ig_expr.specs.Evaluation.{value_of, with_two}
use Rattle.ig_expr.specs.Expression.{Expression, Integer, Truth, Here, Variable, Binary}
use Rattle.ig_expr.specs.Names.{place_of}
use Rattle.ig_expr.specs.Operations.{operation, on_integers}
use Rattle.ig_expr.specs.declared.operator.Op.{Op}
use Rattle.ig_expr.specs.declared.operator.Op.TheVariants.{Less, LessEqual, Greater, GreaterEqual, Equal, NotEqual}
use Rattle.ig_expr.specs.declared.value.Value.{Value}
use Rattle.ig_expr.specs.declared.value.Value.TheVariants as value
use Rattle.ig_item.specs.Step.{Step}
use Rattle.ig_run_tables.specs.Compiled.{atom_of, form_of, alone, binary, value_at, value_by, AreOwn, values_in, comparison, compared, expressions_of, forms_along}
use Rattle.ig_run_tables.specs.declared.compiled.Atom.{Atom}
use Rattle.ig_run_tables.specs.declared.compiled.Atom.TheVariants as atom
use Rattle.ig_run_tables.specs.declared.compiled.Form.{Form}
use Rattle.ig_run_tables.specs.declared.compiled.Form.TheVariants as form
use Rattle.ig_run_tables.specs.declared.steps.Arguments.{Arguments}
use Rattle.ig_run_tables.specs.declared.steps.Arguments.TheVariants.{Own}

alone_is : (o : Option Atom) (a : Atom) → alone o ≡ form.Alone a → o ≡ Some a
alone_is None a h = cc
alone_is (Some b) a h = cc

alone_is_not : (o : Option Atom) (op : Op) (a b : Atom) → alone o ≡ form.Binary op a b → ⊥
alone_is_not None op a b h = cc
alone_is_not (Some c) op a b h = cc

binary_is_not : (op : Op) (o p : Option Atom) (a : Atom) → binary op o p ≡ form.Alone a → ⊥
binary_is_not op None p a h = cc
binary_is_not op (Some b) None a h = cc
binary_is_not op (Some b) (Some c) a h = cc

binary_is : (o op : Op) (p q : Option Atom) (a b : Atom) → binary o p q ≡ form.Binary op a b → (o ≡ op) × (p ≡ Some a) × (q ≡ Some b)
binary_is o op None q a b h = cc
binary_is o op (Some c) None a b h = cc
binary_is o op (Some c) (Some d) a b h = (let e : o ≡ op = cc in e, let e : Some c ≡ Some a = cc in e, let e : Some d ≡ Some b = cc in e)

placed : (values : List Value) (here : ℕ) (o : Option ℕ) (a : Atom) → option_map atom.Place o ≡ Some a →
    option_and_then (slice_get values) o ≡ value_at values here a
placed values here None a h = cc
placed values here (Some k) a h = ap (value_at values here) (same_Some (atom.Place k) a h)

-- an expression that is an atom has its value
pub atom_value : (text : Input) (names : List (List ℕ)) (values : List Value) (here : ℕ) (e : Expression) (a : Atom) →
    atom_of names e ≡ Some a → value_of text names values here e ≡ value_at values here a
atom_value text names values here (Integer n) a h = ap (value_at values here) (same_Some (atom.Constant (value.Int n)) a h)
atom_value text names values here (Truth b) a h = ap (value_at values here) (same_Some (atom.Constant (value.Bool b)) a h)
atom_value text names values here Here a h = ap (value_at values here) (same_Some atom.Here a h)
atom_value text names values here (Variable x) a h = placed values here (place_of names x) a h
atom_value text names values here e a h = cc

form_alone : (text : Input) (names : List (List ℕ)) (values : List Value) (here : ℕ) (e : Expression) (a : Atom) →
    form_of names e ≡ form.Alone a → value_of text names values here e ≡ value_at values here a
form_alone text names values here (Binary op x y) a h = absurd (binary_is_not op (atom_of names x) (atom_of names y) a h)
form_alone text names values here e a h = atom_value text names values here e a (alone_is (atom_of names e) a h)

form_binary : (text : Input) (names : List (List ℕ)) (values : List Value) (here : ℕ) (e : Expression) (op : Op) (a b : Atom) →
    form_of names e ≡ form.Binary op a b →
    value_of text names values here e ≡ with_two (operation op) (value_at values here a) (value_at values here b)
form_binary text names values here (Binary o x y) op a b h =
    let both = binary_is o op (atom_of names x) (atom_of names y) a b h in
    λ i. with_two (operation (both.0 i)) (atom_value text names values here x a both.1 i) (atom_value text names values here y b both.2 i)
form_binary text names values here e op a b h = absurd (alone_is_not (atom_of names e) op a b h)

comparison_is : (op : Op) (a b : ℤ) (r : Bool) → comparison op a b ≡ Some r → on_integers op a b ≡ Some (value.Bool r)
comparison_is Less a b r h = ap (option_map value.Bool) h
comparison_is LessEqual a b r h = ap (option_map value.Bool) h
comparison_is Greater a b r h = ap (option_map value.Bool) h
comparison_is GreaterEqual a b r h = ap (option_map value.Bool) h
comparison_is Equal a b r h = ap (option_map value.Bool) h
comparison_is NotEqual a b r h = ap (option_map value.Bool) h
comparison_is op a b r h = cc

-- what compares two values is what the operator gives at them
compared_is : (op : Op) (o p : Option Value) (r : Bool) → compared op o p ≡ Some r → with_two (operation op) o p ≡ Some (value.Bool r)
compared_is op (Some (value.Int a)) (Some (value.Int b)) r h = comparison_is op a b r h
compared_is op o p r h = cc

-- the value of an expression whose form is an atom
pub value_alone : (text : Input) (names : List (List ℕ)) (values : List Value) (here : ℕ) (e : Expression) (f : Form) (a : Atom)
    (r : Option Value) → f ≡ form_of names e → f ≡ form.Alone a → r ≡ value_at values here a → r ≡ value_of text names values here e
value_alone text names values here e f a r compiled is told = told ∙ sym (form_alone text names values here e a (sym compiled ∙ is))

-- the value of an expression whose form is a comparison
pub value_compared : (text : Input) (names : List (List ℕ)) (values : List Value) (here : ℕ) (e : Expression) (f : Form) (op : Op)
    (a b : Atom) (x y : Option Value) (o : Option Bool) (r : Bool) → f ≡ form_of names e → f ≡ form.Binary op a b →
    x ≡ value_at values here a → y ≡ value_at values here b → o ≡ compared op x y → o ≡ Some r →
    Some (value.Bool r) ≡ value_of text names values here e
value_compared text names values here e f op a b x y o r compiled is x_is y_is told some =
    sym (compared_is op x y r (sym told ∙ some)) ∙ (λ i. with_two (operation op) (x_is i) (y_is i)) ∙
    sym (form_binary text names values here e op a b (sym compiled ∙ is))

-- one step of the forms along the dots
pub forms_more : (names : List (List (List ℕ))) (steps : List Step) (k : ℕ) (visible : List (List ℕ)) (step : Step) →
    slice_get names k ≡ Some visible → slice_get steps k ≡ Some step →
    forms_along (drop k names) (drop k steps) ≡ map (form_of visible) (expressions_of step) ∷ forms_along (drop (suc k) names) (drop (suc k) steps)
forms_more [] steps k visible step n s = cc
forms_more (m ∷ names) [] k visible step n s = cc
forms_more (m ∷ names) (t ∷ steps) zero visible step n s =
    let f = same_Some m visible n in let g = same_Some t step s in
    λ i. map (form_of (f i)) (expressions_of (g i)) ∷ forms_along names steps
forms_more (m ∷ names) (t ∷ steps) (suc k) visible step n s = forms_more names steps k visible step n s

-- no steps have no forms
forms_nowhere : (names : List (List (List ℕ))) → forms_along names [] ≡ []
forms_nowhere [] = refl
forms_nowhere (m ∷ names) = refl

-- where no names are left there are no more forms
pub forms_end : (names : List (List (List ℕ))) (steps : List Step) (k : ℕ) → slice_get names k ≡ None →
    forms_along (drop k names) (drop k steps) ≡ []
forms_end [] steps zero n = refl
forms_end [] [] (suc k) n = refl
forms_end [] (t ∷ steps) (suc k) n = refl
forms_end (m ∷ names) steps zero n = cc
forms_end (m ∷ names) [] (suc k) n = forms_nowhere (drop k names)
forms_end (m ∷ names) (t ∷ steps) (suc k) n = forms_end names steps k n

-- the forms behind a dot are those of the expressions of its step
pub forms_there : (names : List (List (List ℕ))) (steps : List Step) (k : ℕ) (visible : List (List ℕ)) (step : Step) (forms : List Form) →
    slice_get names k ≡ Some visible → slice_get steps k ≡ Some step → slice_get (forms_along names steps) k ≡ Some forms →
    forms ≡ map (form_of visible) (expressions_of step)
forms_there [] steps k visible step forms n s f = cc
forms_there (m ∷ names) [] k visible step forms n s f = cc
forms_there (m ∷ names) (t ∷ steps) zero visible step forms n s f =
    let a = same_Some m visible n in let b = same_Some t step s in
    sym (same_Some (map (form_of m) (expressions_of t)) forms f) ∙ (λ i. map (form_of (a i)) (expressions_of (b i)))
forms_there (m ∷ names) (t ∷ steps) (suc k) visible step forms n s f = forms_there names steps k visible step forms n s f

-- before a step, where names are visible, there are forms
pub forms_before : (names : List (List (List ℕ))) (steps : List Step) (k : ℕ) (visible : List (List ℕ)) (step : Step) →
    slice_get names k ≡ Some visible → slice_get steps k ≡ Some step → slice_get (forms_along names steps) k ≡ None → ⊥
forms_before [] steps k visible step n s f = cc
forms_before (m ∷ names) [] k visible step n s f = cc
forms_before (m ∷ names) (t ∷ steps) zero visible step n s f = cc
forms_before (m ∷ names) (t ∷ steps) (suc k) visible step n s f = forms_before names steps k visible step n s f

-- the forms of the steps so far, with those of one more
pub forms_pushed : (names : List (List (List ℕ))) (steps : List Step) (k j : ℕ) (rows after : List (List Form)) (row : List Form)
    (visible : List (List ℕ)) (step : Step) → j ≡ k → Some visible ≡ slice_get names j → slice_get steps k ≡ Some step →
    row ≡ map (form_of visible) (expressions_of step) → after ≡ rows ++ row ∷ [] →
    rows ++ forms_along (drop k names) (drop k steps) ≡ forms_along names steps →
    after ++ forms_along (drop (k + 1) names) (drop (k + 1) steps) ≡ forms_along names steps
forms_pushed names steps k j rows after row visible step same n s row_is after_is before =
    let more = forms_more names steps k visible step (sym (n ∙ ap (slice_get names) same)) s in
    let one : suc k ≡ k + 1 = omega arith in
    let rest = forms_along (drop (suc k) names) (drop (suc k) steps) in
    let all : rows ++ map (form_of visible) (expressions_of step) ∷ rest ≡ forms_along names steps =
    ap (λ z. rows ++ z) (sym more) ∙ before in
    subst (λ z. after ++ forms_along (drop z names) (drop z steps) ≡ forms_along names steps) one
    (ap (λ z. z ++ rest) after_is ∙ append_assoc rows (row ∷ []) rest ∙ ap (λ z. rows ++ z ∷ rest) row_is ∙ all)

-- the forms so far are all, where no names are left
pub forms_stop : (names : List (List (List ℕ))) (steps : List Step) (k j : ℕ) (rows : List (List Form)) → j ≡ k → None ≡ slice_get names j →
    rows ++ forms_along (drop k names) (drop k steps) ≡ forms_along names steps → rows ≡ forms_along names steps
forms_stop names steps k j rows same none before =
    let end = forms_end names steps k (sym (none ∙ ap (slice_get names) same)) in
    sym (append-nil rows) ∙ ap (λ z. rows ++ z) (sym end) ∙ before

-- the forms so far are all, where no steps are left
pub forms_all : (names : List (List (List ℕ))) (steps : List Step) (k : ℕ) (rows : List (List Form)) → length steps ≤ k →
    rows ++ forms_along (drop k names) (drop k steps) ≡ forms_along names steps → rows ≡ forms_along names steps
forms_all names steps k rows past before =
    sym (append-nil rows) ∙ ap (λ z. rows ++ z) (sym (forms_nowhere (drop k names)) ∙ ap (forms_along (drop k names)) (sym (drop_all k steps past)))
    ∙ before

-- a list that is made member by member has for each member what is made of it
pub made_at : {X Y Z : Type 0} (g : X → Y) (f : Y → Z) (xs : List X) (zs : List Z) (k : ℕ) (x : X) (d : Z) → zs ≡ map f (map g xs) →
    slice_get xs k ≡ Some x → slice_index_or zs k d ≡ f (g x)
made_at g f xs zs k x d made at =
    get_or_from_slice_get zs k (f (g x)) d
    (ap (λ z. slice_get z k) made ∙ slice_get-map f (map g xs) k ∙ ap (option_map f) (slice_get-map g xs k ∙ ap (option_map g) at))

-- an expression whose form is an atom with a value has that value
atom_at : (text : Input) (names : List (List ℕ)) (values : List Value) (here : ℕ) (e : Expression) (f : Form) (v : Value) →
    f ≡ form_of names e → value_by values here f ≡ Some v → value_of text names values here e ≡ Some v
atom_at text names values here e (form.Alone a) v compiled told = form_alone text names values here e a (sym compiled) ∙ told
atom_at text names values here e (form.Binary op a b) v compiled told = cc
atom_at text names values here e form.Other v compiled told = cc

-- expressions have the values that their forms have alone
pub own_values : (text : Input) (names : List (List ℕ)) (values : List Value) (here : ℕ) (es : List Expression) (vs : List Value) →
    map (value_by values here) (map (form_of names) es) ≡ map Some vs → map (value_of text names values here) es ≡ map Some vs
own_values text names values here [] [] h = refl
own_values text names values here [] (v ∷ vs) h = cc
own_values text names values here (e ∷ es) [] h = cc
own_values text names values here (e ∷ es) (v ∷ vs) h =
    let first : value_by values here (form_of names e) ≡ Some v = cc in
    let rest : map (value_by values here) (map (form_of names) es) ≡ map Some vs = cc in
    λ i. atom_at text names values here e (form_of names e) v refl first i ∷ own_values text names values here es vs rest i

-- the arguments are the values of the environment
pub arguments_own : (text : Input) (names : List (List ℕ)) (values : List Value) (here : ℕ) (es : List Expression) (forms : List Form)
    (a : Arguments) → forms ≡ map (form_of names) es → AreOwn values here forms → Some Own ≡ Some a →
    map (value_of text names values here) es ≡ map Some (values_in values a)
arguments_own text names values here es forms a compiled own is =
    own_values text names values here es values (ap (map (value_by values here)) (sym compiled) ∙ own) ∙
    ap (λ z. map Some (values_in values z)) (same_Some Own a is)
