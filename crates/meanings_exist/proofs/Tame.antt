-- Sets and relations of things of a list, of which membership is decided.
use Rattle.std.proofs.Common.{◌≡◌, ◌⊎◌, inl, inr, List, [], ◌∷◌, Contains, subst}
use Rattle.meaning.specs.Sets.{Set, Relation, Union, Intersection, Difference, Complement, Identity, Product, Inverse, Sequence, Path, Transitive}
use Rattle.meanings_exist.proofs.Decisions.{Decided, decided_as, none_decided, not_decided, both_decided, either_decided}
use Rattle.meanings_exist.proofs.Finite.{finite_list, some_decided}
use Rattle.meanings_exist.proofs.Paths.{transitive_decided, path_ends}

pub record IsTameSet {E : Type 0} (C : List E) (S : Set E) : Type 0 where
  pub inside : (a : E) → S a → Contains C a
  pub decided : (a : E) → Decided (S a)

pub record IsTameRelation {E : Type 0} (C : List E) (R : Relation E) : Type 0 where
  pub from : (a b : E) → R a b → Contains C a
  pub into : (a b : E) → R a b → Contains C b
  pub decided : (a b : E) → Decided (R a b)

-- All that there is, of a list, where it is decided of two things whether they are one.
pub record Frame (E : Type 0) : Type 1 where
  pub things : List E
  pub all : Set E
  pub tame : IsTameSet things all
  pub same : (a b : E) → Decided (a ≡ b)

-- ---- sets

pub no_members : {E : Type 0} (C : List E) → IsTameSet C (λ a. ⊥)
no_members C = record { inside = λ a h. absurd h; decided = λ a. none_decided }

pub union_set : {E : Type 0} (C : List E) (S T : Set E) → IsTameSet C S → IsTameSet C T
    → IsTameSet C (λ a. S a ⊎ T a)
union_set {E} C S T s t = record {
  inside = inside;
  decided = λ a. either_decided (s.decided a) (t.decided a);
}
  where
    inside : (a : E) → S a ⊎ T a → Contains C a
    inside a (inl h) = s.inside a h
    inside a (inr h) = t.inside a h

pub intersection_set : {E : Type 0} (C : List E) (S T : Set E) → IsTameSet C S → IsTameSet C T
    → IsTameSet C (λ a. S a × T a)
intersection_set C S T s t = record {
  inside = λ a h. s.inside a h.0;
  decided = λ a. both_decided (s.decided a) (t.decided a);
}

pub difference_set : {E : Type 0} (C : List E) (S T : Set E) → IsTameSet C S → IsTameSet C T
    → IsTameSet C (λ a. S a × (T a → ⊥))
difference_set C S T s t = record {
  inside = λ a h. s.inside a h.0;
  decided = λ a. both_decided (s.decided a) (not_decided (t.decided a));
}

-- ---- relations

pub no_pairs : {E : Type 0} (C : List E) → IsTameRelation C (λ a b. ⊥)
no_pairs C = record {
  from = λ a b h. absurd h;
  into = λ a b h. absurd h;
  decided = λ a b. none_decided;
}

module _ {E : Type 0} (C : List E) where
  pub union : (R Q : Relation E) → IsTameRelation C R → IsTameRelation C Q
      → IsTameRelation C (Union R Q)
  union R Q r q = record {
    from = from;
    into = into;
    decided = λ a b. either_decided (r.decided a b) (q.decided a b);
  }
    where
      from : (a b : E) → Union R Q a b → Contains C a
      from a b (inl h) = r.from a b h
      from a b (inr h) = q.from a b h

      into : (a b : E) → Union R Q a b → Contains C b
      into a b (inl h) = r.into a b h
      into a b (inr h) = q.into a b h

  pub intersection : (R Q : Relation E) → IsTameRelation C R → IsTameRelation C Q
      → IsTameRelation C (Intersection R Q)
  intersection R Q r q = record {
    from = λ a b h. r.from a b h.0;
    into = λ a b h. r.into a b h.0;
    decided = λ a b. both_decided (r.decided a b) (q.decided a b);
  }

  pub difference : (R Q : Relation E) → IsTameRelation C R → IsTameRelation C Q
      → IsTameRelation C (Difference R Q)
  difference R Q r q = record {
    from = λ a b h. r.from a b h.0;
    into = λ a b h. r.into a b h.0;
    decided = λ a b. both_decided (r.decided a b) (not_decided (q.decided a b));
  }

  pub product : (S T : Set E) → IsTameSet C S → IsTameSet C T → IsTameRelation C (Product S T)
  product S T s t = record {
    from = λ a b h. s.inside a h.0;
    into = λ a b h. t.inside b h.1;
    decided = λ a b. both_decided (s.decided a) (t.decided b);
  }

  pub inverse : (R : Relation E) → IsTameRelation C R → IsTameRelation C (Inverse R)
  inverse R r = record {
    from = λ a b h. r.into b a h;
    into = λ a b h. r.from b a h;
    decided = λ a b. r.decided b a;
  }

  pub sequence : (R Q : Relation E) → IsTameRelation C R → IsTameRelation C Q
      → IsTameRelation C (Sequence R Q)
  sequence R Q r q = record {
    from = λ a b h. r.from a h.0 h.1;
    into = λ a b h. q.into h.0 b h.2;
    decided = λ a b.
        decided_as (λ h. (h.0, h.2.0, h.2.1))
        (λ h. (h.0, r.into a h.0 h.1, (h.1, h.2)))
        (some_decided (λ c. Contains C c) (λ c. R a c × Q c b) (finite_list C)
        (λ c there. both_decided (r.decided a c) (q.decided c b)));
  }

  pub transitive : (R : Relation E) → IsTameRelation C R → IsTameRelation C (Transitive R)
  transitive R r = record {
    from = λ a b h. begins a h.0 b h.1;
    into = λ a b h. path_ends R C r.into a h.0 b h.1;
    decided = transitive_decided R C r.into r.decided;
  }
    where
      begins : (a : E) (cs : List E) (b : E) → Path R a cs b → Contains C a
      begins a [] b path = r.from a b path
      begins a (c ∷ cs) b path = r.from a c path.0

  pub identity : ((a b : E) → Decided (a ≡ b)) → (S : Set E) → IsTameSet C S
      → IsTameRelation C (Identity S)
  identity same S s = record {
    from = λ a b h. s.inside a h.0;
    into = λ a b h. subst (λ (c : E). Contains C c) h.1 (s.inside a h.0);
    decided = λ a b. both_decided (s.decided a) (same a b);
  }

  pub complement : (all : Set E) → IsTameSet C all → (R : Relation E) → IsTameRelation C R
      → IsTameRelation C (Complement all R)
  complement all is_all R r = record {
    from = λ a b h. is_all.inside a h.0;
    into = λ a b h. is_all.inside b h.1;
    decided = λ a b.
        decided_as (λ h. (h.0, h.1.0, h.1.1)) (λ h. (h.0, (h.1, h.2)))
        (both_decided (is_all.decided a)
        (both_decided (is_all.decided b) (not_decided (r.decided a b))));
  }
