-- At the end of the text the ways are those that the rules give from reachable items.
use Rattle.std.proofs.Common.{◌≡◌, inl, ℕ, List, [], ◌++◌, Some, length, map, Contains, refl, sym, ap, subst, slice_get}
use Rattle.std.proofs.lemmas.Option.{slice_get_within}
use Rattle.ig_text.specs.Input.{Input}
use Rattle.ig_text.proofs.Lists.{contains_from_at, none_in_nil}
use Rattle.ig_item.specs.Items.{Item, Reachable}
use Rattle.ig_item.specs.Gives.{Taken}
use Rattle.ig_item.specs.Laws.{ItemsAreInText}
use Rattle.ig_item.specs.Tables.{Tables, tables_by}
use Rattle.ig_item.specs.Ways.{WayTo, CameBy, AreWays}
use Rattle.ig_item.specs.Recorded as recorded
use Rattle.ig_item.specs.Recorded.{recording}
use Rattle.ig_item.specs.declared.core_grammar.Nonterminal.{Nonterminal}
use Rattle.ig_item.specs.Induction.{gives_more}
use Rattle.ig_plain.specs.declared.found.Found.{Found}
use Rattle.ig_plain.specs.declared.trail.Trail.{Trail}
use Rattle.ig_run_moves.specs.declared.waiting.Waiting.{Waiting}
use Rattle.ig_plain.specs.Found.{means, found_in, later_in, taken_in}
use Rattle.ig_plain.specs.Run.{IsRun}
use Rattle.ig_plain.specs.Trail as trail
use Rattle.ig_plain.specs.Trail.{IsRecorded, IsCame, HasTrail}
use Rattle.ig_plain.proofs.Ends.{no_later, taken_all, sound, complete, once, items_same, exactly, none_twice, keys_once}
use Rattle.ig_plain.proofs.Trails.{EndsGrow, says_on, way_on, ends_none}

-- the same items are known
ends_same : (core : List Nonterminal) (known other : Item → Type 0) (items : List Item) → ((x : Item) → known x → other x) →
    ((x : Item) → other x → known x) → EndsGrow core known other items items (length items) (λ key. ⊥)
ends_same core known other items to back =
    record {
      knows = to;
      stays = λ k x at. at;
      splits = λ key d e. inl (record { item = e.item; there = e.there; is_known = back e.item e.is_known; completes = e.completes });
      below = λ key d e. slice_get_within items d e.item e.there;
      which = λ x key k c. inl (back x k);
      ends = λ key q. absurd q;
    }

module _ (core : List Nonterminal) (text : Input) (law : ItemsAreInText) (budget : ℕ) (s : Found) (w : Waiting)
    (r : IsRun core text budget (length text.characters) (length s.here.items) s w) (t : Trail) (h : HasTrail core text (length text.characters) (length s.here.items) s w t) where
  abbrev known : Item → Type 0
  known = Contains (taken_in s (length s.here.items))

  abbrev reached : Item → Type 0
  reached = Reachable core text

  -- the items that are taken are the reachable ones
  to : (x : Item) → known x → reached x
  to x c = sound core text law budget s w r x (subst (λ (z : List Item). Contains z x) (taken_all core text law budget s w r) c)

  back : (x : Item) → reached x → known x
  back x q = subst (λ (z : List Item). Contains z x) (sym (taken_all core text law budget s w r)) (complete core text law budget s w r x q)

  same : EndsGrow core known reached (found_in s) (found_in s) (length (found_in s)) (λ key. ⊥)
  same = ends_same core known reached (found_in s) to back

  none_recorded : (x : Item) (n : ℕ) → trail.Pairs (later_in s) t.later.items x n → ⊥
  none_recorded x n p =
      let none : later_in s ≡ [] = ap (map (means s)) (no_later core text law budget s w r) in
      none_in_nil x (contains_from_at [] p.0 x (subst (λ (z : List Item). slice_get z p.0 ≡ Some x) none p.1))

  came : (k : ℕ) (x prev : Item) (what : Taken) → slice_get (found_in s) k ≡ Some x →
      IsCame core s t (taken_in s (length s.here.items)) x prev what → CameBy core text reached (found_in s) t.ways k x prev what
  came k x prev what at c =
      record {
        way = c.way;
        to = there c.recorded;
        says = says_on core known reached (found_in s) (found_in s) (length (found_in s)) (λ key. ⊥) same c.says;
      }
    where
      there : IsRecorded s t c.way x → WayTo t.ways k c.way
      there (trail.here j j_at way_to) = subst (λ (z : ℕ). WayTo t.ways z c.way) (once core text law budget s w r j k x j_at at) way_to
      there (trail.later n pair is) = absurd (none_recorded x n pair)

  found_ways : AreWays core text (found_in s) t.ways
  found_ways =
      record {
        ways = record {
          number = h.ways.numbered;
          sound = λ k x way at way_to.
              way_on core text known reached (found_in s) (found_in s) (length (found_in s)) (λ key. ⊥) same x way
              (h.ways.sound way x (trail.here k at way_to));
          complete = λ k x prev what at g.
              came k x prev what at (h.ways.complete x prev what (gives_more core text back g));
          there = h.ways.there;
        };
        ends = ends_none core known reached (found_in s) (found_in s) (length (found_in s)) (λ key. ⊥) same t.ways t.ways refl
            (λ key q. absurd q) h.ways.ends;
      }

  -- what the run records is what is told of it
  pub is_recorded : (tables : Tables) → tables ≡ tables_by s.keys s.envs.keys (s.done.items ++ s.here.items) →
      recorded.IsRecorded (recording core text tables t.ways)
  is_recorded tables is =
      subst (λ (z : Tables). recorded.IsRecorded (recording core text z t.ways)) (sym is)
      (record {
        reachable = exactly core text law budget s w r;
        once = none_twice core text law budget s w r;
        instances = keys_once core text law budget s w r;
        environments = r.taking.stored.tables.environments;
        are_ways = subst (λ (z : List Item). AreWays core text z t.ways)
            (sym (items_same core text law budget s w r)) found_ways;
      })
