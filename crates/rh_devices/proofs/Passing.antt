-- What a device passed, joined from parts; and the front of a text that was written where writing failed.
use Rattle.std.proofs.Common.{◌≡◌, ◌<◌, ℕ, List, [], ◌∷◌, ◌++◌, length, refl, sym, ap, subst, ◌∙◌, append-nil, append_assoc}
use Rattle.std.specs.List.{flat_map}
use Rattle.rh_devices.specs.declared.fault.WriteFault.{WriteFault}
use Rattle.rh_devices.specs.declared.fault.WriteFault.TheVariants as writing
use Rattle.rh_devices.specs.declared.watched.Watched.{Watched}
use Rattle.rh_devices.specs.Devices.{InTurn, Passed, BrokeOff, FrontTaken, FrontBroken, WroteFront}

join_behind : (ps qs : List (List ℕ)) → flat_map (λ piece. piece) (ps ++ qs) ≡ flat_map (λ piece. piece) ps ++ flat_map (λ piece. piece) qs
join_behind [] qs = refl
join_behind (piece ∷ ps) qs = ap (λ l. piece ++ l) (join_behind ps qs) ∙ sym (append_assoc piece (flat_map (λ p. p) ps) (flat_map (λ p. p) qs))

module _ {D : Type 0} (passes : D → D → List ℕ → Type 0) where
  in_turn_behind : (a b c : D) (ps qs : List (List ℕ)) → InTurn passes a b ps → InTurn passes b c qs → InTurn passes a c (ps ++ qs)
  in_turn_behind a b c [] qs p q = subst (λ d. InTurn passes d c qs) (sym p) q
  in_turn_behind a b c (piece ∷ ps) qs p q = (p.0, p.1, in_turn_behind p.0 b c ps qs p.2 q)

  pub passed_none : (a : D) → Passed passes a a []
  passed_none a = ([], refl, refl)

  pub passed_more : (a b c : D) (xs ys : List ℕ) → Passed passes a b xs → Passed passes b c ys → Passed passes a c (xs ++ ys)
  passed_more a b c xs ys p q = (p.0 ++ q.0, in_turn_behind a b c p.0 q.0 p.1 q.1, join_behind p.0 q.0 ∙ (λ i. p.2 i ++ q.2 i))

  passed_one : (a b : D) (xs : List ℕ) → passes a b xs → Passed passes a b xs
  passed_one a b xs p = (xs ∷ [], (b, p, refl), append-nil xs)

  pub passed_next : (a b c : D) (xs ys : List ℕ) → Passed passes a b xs → passes b c ys → Passed passes a c (xs ++ ys)
  passed_next a b c xs ys p q = passed_more a b c xs ys p (passed_one b c ys q)

module _ {K : Type 0} (takes : K → K → List ℕ → Type 0) (fails : K → K → Type 0) where
  -- nothing is a front of any text
  pub nothing_yet : (a : K) (text : List ℕ) → FrontTaken takes a a text
  nothing_yet a text = ([], text, passed_none takes a, refl)

  front_behind : (a b c : K) (done text : List ℕ) → Passed takes a b done → FrontTaken takes b c text → FrontTaken takes a c (done ++ text)
  front_behind a b c done text p q =
      (done ++ q.0, q.1, passed_more takes a b c done q.0 p q.2, ap (λ l. done ++ l) q.3 ∙ sym (append_assoc done q.0 q.1))

  broken_behind : (a b c : K) (done text : List ℕ) → Passed takes a b done → FrontBroken takes fails b c text → FrontBroken takes fails a c (done ++ text)
  broken_behind a b c done text p q = (
    done ++ q.0,
    q.1,
    (q.2.0, passed_more takes a b q.2.0 done q.0 p q.2.1, q.2.2),
    ap (λ l. done ++ l) q.3 ∙ sym (append_assoc done q.0 q.1),
  )

  -- a fault behind what was written
  pub fault_behind : (f : WriteFault) (a b c : Watched K) (done text : List ℕ)
      → Passed takes a.inner b.inner done → WroteFront takes fails f text b c → WroteFront takes fails f (done ++ text) a c
  fault_behind writing.Failed a b c done text p q = (broken_behind a.inner b.inner c.inner done text p q.0, q.1)
  fault_behind writing.OutOfMemory a b c done text p q = (front_behind a.inner b.inner c.inner done text p q.0, q.1)

  -- and one before more would have been written
  pub fault_before : (f : WriteFault) (a b : Watched K) (text more : List ℕ) → WroteFront takes fails f text a b → WroteFront takes fails f (text ++ more) a b
  fault_before writing.Failed a b text more q =
      ((q.0.0, q.0.1 ++ more, q.0.2, ap (λ l. l ++ more) q.0.3 ∙ append_assoc q.0.0 q.0.1 more), q.1)
  fault_before writing.OutOfMemory a b text more q =
      ((q.0.0, q.0.1 ++ more, q.0.2, ap (λ l. l ++ more) q.0.3 ∙ append_assoc q.0.0 q.0.1 more), q.1)
